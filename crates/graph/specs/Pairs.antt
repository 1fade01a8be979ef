-- Joined pairs of bridges, and the hops that a path takes (02, A5). Pairs go by the numbers of their bridges, never by how a graph
-- came to know their hops. Assumes nothing.
use Rattle.std.specs.Prelude.{ℕ, Bool, false, ◌&&◌, ◌||◌, eqb, ltb}
use mathlib.Core.List.{List, [], ◌∷◌, map, flat_map}
use Rattle.lists.specs.Lists.{rising, selected}
use Rattle.graph.specs.Graph.{Graph}
use Rattle.graph.specs.Chosen.{neighbours}

-- Two bridges.
pub record Pair : Type 0 where
  pub lower : ℕ
  pub higher : ℕ

-- The joined pairs whose lower bridge is `u`, by the higher.
abbrev pub pairs_of : Graph → ℕ → List Pair
pairs_of g u = map (λ v. record { lower = u; higher = v }) (selected (λ v. ltb u v) (neighbours g u))

-- "lower bridge, higher bridge .. for each joined pair in rising order": by the lower, then by the higher.
unfoldable pub joined_pairs : Graph → List Pair
joined_pairs g = flat_map (pairs_of g) (rising 0 g.size)

-- The hop from `x` to `y` is the pair's, "either way".
abbrev pub is_hop_of : Pair → ℕ → ℕ → Bool
is_hop_of q x y = (eqb x q.lower && eqb y q.higher) || (eqb x q.higher && eqb y q.lower)

-- The path "takes that hop either way".
unfoldable pub takes : Pair → List ℕ → Bool
takes q [] = false
takes q (x ∷ []) = false
takes q (x ∷ y ∷ t) = is_hop_of q x y || takes q (y ∷ t)
