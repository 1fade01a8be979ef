-- The two bridges of the listing program's table (01, "Diamonds and other figures"), joined at cost 12, the second overloaded: what is
-- asked of the lists that stand for a graph can be met.
-- Assumes nothing.
use Rattle.std.specs.Prelude.{ℕ, zero, suc, ◌+◌, ◌≤◌, ◌<◌, ◌≡◌, refl, List, [], ◌∷◌, ◌++◌, Bool, true, false, eqb, get_or, replicate}
use Rattle.std.proofs.Common.{arith}
use Rattle.graph.specs.Graph.{Graph, Joined}
use Rattle.tree.specs.Trees.{mark_at, Represented}

abbrev pair_hop : ℕ → ℕ → ℕ
pair_hop zero zero = 0
pair_hop zero (suc zero) = 12
pair_hop zero (suc (suc v)) = 0
pair_hop (suc zero) zero = 12
pair_hop (suc zero) (suc v) = 0
pair_hop (suc (suc u)) v = 0

abbrev pair_between : ℕ → Bool
pair_between zero = true
pair_between (suc u) = false

abbrev pair : Graph
pair = record { size = 2; hop = pair_hop; between = pair_between }

-- The starts, and behind those of 64 bridges and one more the marks.
abbrev starts : List ℕ
starts = 0 ∷ 1 ∷ 2 ∷ (replicate 62 0 ++ (0 ∷ 1 ∷ []))

abbrev neighbours : List ℕ
neighbours = 1 ∷ 0 ∷ []

abbrev costs : List ℕ
costs = 12 ∷ 12 ∷ []

symmetric : (u v : ℕ) → pair_hop u v ≡ pair_hop v u
symmetric zero zero = refl
symmetric zero (suc zero) = refl
symmetric zero (suc (suc v)) = refl
symmetric (suc zero) zero = refl
symmetric (suc zero) (suc zero) = refl
symmetric (suc zero) (suc (suc v)) = refl
symmetric (suc (suc u)) zero = refl
symmetric (suc (suc u)) (suc zero) = refl
symmetric (suc (suc u)) (suc (suc v)) = refl

inside : (u v : ℕ) → 0 < pair_hop u v → u < 2
inside zero v h = omega arith
inside (suc zero) v h = omega arith
inside (suc (suc u)) v h = absurd (omega arith)

hop_most : (u v : ℕ) → pair_hop u v ≤ 16777214
hop_most zero zero = omega arith
hop_most zero (suc zero) = omega arith
hop_most zero (suc (suc v)) = omega arith
hop_most (suc zero) zero = omega arith
hop_most (suc zero) (suc v) = omega arith
hop_most (suc (suc u)) v = omega arith

at_bridge : (P : ℕ → Type 0) → P 0 → P 1 → (u : ℕ) → u < 2 → P u
at_bridge P p q zero h = p
at_bridge P p q (suc zero) h = q
at_bridge P p q (suc (suc u)) h = absurd (omega arith)

-- Each place of the lists belongs to one bridge.
at_place : (P : ℕ → ℕ → Type 0) → P 0 0 → P 1 1 → (u i : ℕ) → u < 2 → get_or starts u 0 ≤ i → i < get_or starts (u + 1) 0 → P u i
at_place P p q zero zero h k l = p
at_place P p q zero (suc i) h k l = absurd (omega arith)
at_place P p q (suc zero) zero h k l = absurd (omega arith)
at_place P p q (suc zero) (suc zero) h k l = q
at_place P p q (suc zero) (suc (suc i)) h k l = absurd (omega arith)
at_place P p q (suc (suc u)) i h k l = absurd (omega arith)

listed : (u v : ℕ) → u < 2 → Joined pair u v → (i : ℕ) × (get_or starts u 0 ≤ i) × (i < get_or starts (u + 1) 0) × (get_or neighbours i 0 ≡ v)
listed zero zero h j = absurd (omega arith)
listed zero (suc zero) h j = (0, omega arith, omega arith, refl)
listed zero (suc (suc v)) h j = absurd (omega arith)
listed (suc zero) zero h j = (1, omega arith, omega arith, refl)
listed (suc zero) (suc v) h j = absurd (omega arith)
listed (suc (suc u)) v h j = absurd (omega arith)

pub pair-represented : Represented 2 starts neighbours costs (0 ∷ 1 ∷ [])
pair-represented = record {
  graph = pair;
  key = λ u. u;
  represents = record {
    size_is = refl;
    most = omega arith;
    laws = record { symmetric = symmetric; inside = inside };
    marked = at_bridge (λ u. pair_between u ≡ eqb (mark_at starts u) 0) refl refl;
    hop_most = hop_most;
    has_starts = omega arith;
    in_order = at_bridge (λ u. get_or starts u 0 ≤ get_or starts (u + 1) 0) (omega arith) (omega arith);
    has_neighbours = at_bridge (λ u. get_or starts (u + 1) 0 ≤ 2) (omega arith) (omega arith);
    has_costs = at_bridge (λ u. get_or starts (u + 1) 0 ≤ 2) (omega arith) (omega arith);
    joined = at_place (λ u i. Joined pair u (get_or neighbours i 0)) (omega arith) (omega arith);
    cost_is = at_place (λ u i. get_or costs i 0 ≡ pair_hop u (get_or neighbours i 0)) refl refl;
    listed = listed;
  };
  keyed = record {
    laws = record { distinct = λ u v h k e. e };
    has_keys = omega arith;
    key_is = at_bridge (λ u. get_or (0 ∷ 1 ∷ []) u 0 ≡ u) refl refl;
  };
}
