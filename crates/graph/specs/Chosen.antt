-- The chosen path (01, "The chosen path"): what it is, and a definition by enumeration that computes it.
-- Neither knows how a program finds it. Assumes nothing.
use Rattle.std.specs.Prelude.{ℕ, zero, suc, ◌-◌, ◌≡◌, ◌⊎◌, Bool, true, ltb, eqb}
use mathlib.Core.List.{List, [], ◌∷◌, map, flat_map}
use Rattle.std.proofs.Math.Option.{Option}
use Rattle.lists.specs.Lists.{rising, cons_if, selected, lowest_by}
use Rattle.graph.specs.Order.{Lower, is_lower}
use Rattle.graph.specs.Graph.{Graph, IsPath, rank}

-- "The chosen path has the least cost, then the fewest hops, then the lowest masked PATHID":
-- it ranks below every other list of bridges from `a` to `b`, each joined to the next, repeats included.
pub record Chosen (g : Graph) (key : ℕ → ℕ) (a b : ℕ) (p : List ℕ) : Type 0 where
  pub path : IsPath g a b p
  pub least : (q : List ℕ) → IsPath g a b q → (q ≡ p) ⊎ Lower (rank g key p) (rank g key q)

-- The bridges joined to `u`, by number.
unfoldable pub neighbours : Graph → ℕ → List ℕ
neighbours g u = selected (λ v. ltb 0 (g.hop u v)) (rising 0 g.size)

-- `GoesOn` as a test that computes.
abbrev pub goes_on : Graph → ℕ → List ℕ → Bool
goes_on g v [] = true
goes_on g v (w ∷ t) = g.between v

-- The lists of at most `n` bridges that lead on from `u` to `b`, each bridge joined to the next.
unfoldable pub onward : Graph → ℕ → ℕ → ℕ → List (List ℕ)
onward g zero u b = cons_if (eqb u b) [] []
onward g (suc n) u b =
    cons_if (eqb u b) [] (flat_map (λ v. map (λ t. v ∷ t) (selected (goes_on g v) (onward g n v b))) (neighbours g u))

-- All paths from `a` to `b` of at most as many bridges as the graph has.
unfoldable pub paths : Graph → ℕ → ℕ → List (List ℕ)
paths g a b = map (λ t. a ∷ t) (onward g (g.size - 1) a b)

-- The chosen path by enumeration: the one of lowest rank, or none.
unfoldable pub chosen : Graph → (ℕ → ℕ) → ℕ → ℕ → Option (List ℕ)
chosen g key a b = lowest_by (λ p q. is_lower (rank g key p) (rank g key q)) (paths g a b)
