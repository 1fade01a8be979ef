-- Trees kept from one call to the next in one list, a store of any number of lines. A line has a mark, which says the tree that it
-- holds, and the tree's 320 labels. Assumes nothing.
use Rattle.std.specs.Prelude.{ℕ, ◌+◌, ◌*◌, ◌-◌, ◌/◌, ◌%◌, ◌≤◌, ◌<◌, ◌≡◌, List, length, get_or, take, drop}
use Rattle.network.specs.Layout.{bridges_in}
use Rattle.network.specs.Networks.{TreeIn}

-- The words of a line.
abbrev pub line_words : ℕ
line_words = 321

-- The lines of a store.
abbrev pub lines_of : List ℕ → ℕ
lines_of store = length store / line_words

-- The number of the tree for an ECT index and a root.
abbrev pub slot_of : ℕ → ℕ → ℕ
slot_of index root = (index - 1) * 64 + root

-- The only line, of so many, on which this tree is kept.
abbrev pub line_of : ℕ → ℕ → ℕ → ℕ
line_of lines index root = slot_of index root % lines

-- The mark and the labels of a line.
abbrev pub mark_of : List ℕ → ℕ → ℕ
mark_of store line = get_or store (line_words * line) 0

abbrev pub labels_of : List ℕ → ℕ → List ℕ
labels_of store line = take 320 (drop (line_words * line + 1) store)

-- A line whose mark is the number of a tree and 1 holds this tree. A line with the mark 0 holds none.
pub record TreesKept (net store : List ℕ) : Type 0 where
  pub has_line : line_words ≤ length store
  pub kept : (index root : ℕ) → 1 ≤ index → index ≤ 16 → root < bridges_in net
      → mark_of store (line_of (lines_of store) index root) ≡ slot_of index root + 1
      → TreeIn net index root (labels_of store (line_of (lines_of store) index root))
