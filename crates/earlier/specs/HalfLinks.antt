-- Half-links read so far, by the indexes of two of their keys: a near bridge with port that is there already, and the half-links of
-- a link number. Assumes nothing.
use Rattle.std.specs.Prelude.{ℕ, ◌+◌, ◌*◌, List}
use Rattle.rule.specs.Records.{HalfLink, half_link_of}
use Rattle.earlier.specs.Keys.{KeyedBy}

abbrev pub port_key : HalfLink → ℕ
port_key h = h.near * 65536 + h.port

abbrev pub number_key : HalfLink → ℕ
number_key h = h.link

-- The list `s` is an index of the key of the first `n` half-links from the word `from` on.
abbrev pub Keyed : (HalfLink → ℕ) → List ℕ → List ℕ → ℕ → ℕ → Type 0
Keyed key s ws from n = KeyedBy half_link_of 3 key s ws from n
