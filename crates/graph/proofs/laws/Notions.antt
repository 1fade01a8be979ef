-- Notions that the laws of paths speak of, beside those of Graph and Chosen.
-- Assumes nothing.
use Rattle.std.specs.Prelude.{ℕ, ◌≤◌, ◌<◌, ◌≡◌, List, [], ◌∷◌, ◌⊎◌}
use Rattle.graph.specs.Order.{Lower}
use Rattle.graph.specs.Graph.{Graph, GoesOn, Onward, cost_onward, cost, hops, path_id}

-- A path that came to `c` by the list `t` may go on from there by the list `s`: `c` is an end of the whole or may lie between.
abbrev pub Joint : Graph → List ℕ → ℕ → List ℕ → Type 0
Joint g [] c s = Unit {0}
Joint g (v ∷ t) c s = GoesOn g c s

-- "the least cost": the list `t` leads on from `u` to `b`, and no list that does so costs less.
pub record Least (g : Graph) (u : ℕ) (t : List ℕ) (b : ℕ) : Type 0 where
  pub way : Onward g u t b
  pub no_less : (s : List ℕ) → Onward g u s b → cost_onward g u t ≤ cost_onward g u s

-- "costs more, or ties and has more hops, or ties in both and has a higher masked PATHID" (demand 3): the list `q` beside the list `p`.
abbrev pub RanksAbove : Graph → (ℕ → ℕ) → List ℕ → List ℕ → Type 0
RanksAbove g key q p =
    (cost g p < cost g q) ⊎ ((cost g p ≡ cost g q) × (hops p < hops q))
    ⊎ ((cost g p ≡ cost g q) × (hops p ≡ hops q) × Lower (path_id key p) (path_id key q))

-- A list "passes this bridge and leaves it there": it has `c` at some place and `v` at the next.
abbrev pub Leaves : ℕ → ℕ → List ℕ → Type 0
Leaves c v [] = ⊥
Leaves c v (x ∷ []) = ⊥
Leaves c v (x ∷ y ∷ t) = ((c ≡ x) × (v ≡ y)) ⊎ Leaves c v (y ∷ t)

-- Two graphs with the same hops, and the same bridges that may lie between. Their sizes may differ.
pub record Agree (g h : Graph) : Type 0 where
  pub hops_agree : (u v : ℕ) → g.hop u v ≡ h.hop u v
  pub between_agree : (u : ℕ) → g.between u ≡ h.between u
