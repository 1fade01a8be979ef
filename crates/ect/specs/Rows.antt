-- Rows: the masked PATHIDs of all bridges in one list, `path-ids`, with 64 places for each bridge (01, "The table": up to 64), of which
-- the bridge's row fills the first.
-- Assumes nothing.
use Rattle.std.specs.Prelude.{ℕ, ◌+◌, ◌*◌, ◌≤◌, ◌<◌, ◌≡◌, List, length, take, drop}
use Rattle.graph.specs.Order.{Upward}

-- Where the row of a bridge begins.
abbrev pub row_place : ℕ → ℕ
row_place bridge = bridge * 64

-- The row of a bridge, of `count` keys.
abbrev pub row_of : List ℕ → ℕ → ℕ → List ℕ
row_of path-ids bridge count = take count (drop (row_place bridge) path-ids)

-- The list has all places of a bridge.
abbrev pub HasRow : List ℕ → ℕ → Type 0
HasRow path-ids bridge = row_place bridge + 64 ≤ length path-ids

-- The row of `count` keys of the bridge `from` can be written to the bridge `to` with one key more.
pub record Insertable (path-ids : List ℕ) (from to count : ℕ) : Type 0 where
  pub apart : from ≡ to → ⊥
  pub room : count < 64
  pub has_from : HasRow path-ids from
  pub has_to : HasRow path-ids to
  pub upward : Upward (row_of path-ids from count)
