-- Rows kept by ECT index and start of the paths, in one list: 1,024 places that say where the row of an index and a bridge begins, 0
-- where it has none, and after them the rows, with 64 places each. Assumes nothing.
use Rattle.std.specs.Prelude.{ℕ, ◌+◌, ◌*◌, ◌≤◌, ◌<◌, ◌≡◌, List, length, get_or, drop}
use Rattle.network.specs.Layout.{bridges_in}
use Rattle.network.specs.Networks.{TreeIn}
use Rattle.trees.specs.Store.{slot_of}
use Rattle.egress.specs.Leaving.{leaving_by}

-- Where the row of an index and a bridge begins.
abbrev pub egress_row_at : List ℕ → ℕ → ℕ → ℕ
egress_row_at rows index a = get_or rows (slot_of index a) 0

-- There is a row.
pub record HasEgressRow (rows : List ℕ) (index a : ℕ) : Type 0 where
  pub there : 0 < egress_row_at rows index a

-- The row of a tree of the network: for each bridge the port by which the way from the root to it leaves `b`.
pub record EgressRowOf (net hops : List ℕ) (b index a : ℕ) (row : List ℕ) : Type 0 where
  pub labels : List ℕ
  pub tree : TreeIn net index a labels
  pub each : (d : ℕ) → d < bridges_in net → get_or row d 0 ≡ leaving_by labels hops b d

-- There are `count` rows, and each place that is not 0 says where its row begins.
pub record EgressRowsKept (net hops : List ℕ) (b count : ℕ) (rows : List ℕ) : Type 0 where
  pub size : 6144 ≤ length rows
  pub begins : (index a : ℕ) → 1 ≤ index → index ≤ 16 → a < bridges_in net → (egress_row_at rows index a ≡ 0 → ⊥) → (1024 ≤ egress_row_at rows index a) × (egress_row_at rows index a + 64 ≤ 1024 + 64 * count)
  pub held : (index a : ℕ) → 1 ≤ index → index ≤ 16 → a < bridges_in net → (egress_row_at rows index a ≡ 0 → ⊥)
      → EgressRowOf net hops b index a (drop (egress_row_at rows index a) rows)

-- No row is lost, and the list keeps its length.
pub record Kept (before after : List ℕ) : Type 0 where
  pub same_length : length after ≡ length before
  pub still : (i : ℕ) → i < 1024 → (get_or before i 0 ≡ 0 → ⊥) → get_or after i 0 ≡ 0 → ⊥
