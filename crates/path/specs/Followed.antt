-- Next hops followed through the labels of a tree: the bridges of a path, one after the other. Assumes nothing.
use Rattle.std.specs.Prelude.{ℕ, zero, suc, ◌<◌, List, [], ◌∷◌}
use Rattle.lists.specs.Members.{In}
use Rattle.labels.specs.Labels.{label_at}

-- The bridge `u` and those that next hops lead to from it, `count` in all.
unfoldable pub followed : List ℕ → ℕ → ℕ → List ℕ
followed labels u zero = []
followed labels u (suc count) = u ∷ followed labels (label_at labels u).next count

-- Every bridge followed is one of the 64 that labels have places for.
abbrev pub Inside : List ℕ → ℕ → ℕ → Type 0
Inside labels u count = (x : ℕ) → In x (followed labels u count) → x < 64
