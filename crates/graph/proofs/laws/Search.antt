-- What a search for the shortest path tree rooted at a bridge keeps, over predicates, for any data structure.
-- Bridges carry their chosen path to the root, so a path grows at the front and a next hop is its second bridge.
-- Assumes nothing.
use Rattle.std.specs.Prelude.{ℕ, ◌<◌, ◌≡◌, List, [], ◌∷◌, ◌⊎◌, T}
use Rattle.graph.specs.Order.{Lower}
use Rattle.graph.specs.Graph.{Graph, Joined, cost, hops, path_id, rank}
use Rattle.graph.specs.Chosen.{Chosen}

-- How the bridges stand at some point of a search for the tree rooted at `r`.
-- `Settled v p`: the bridge `v` is settled with the path `p` to the root. `Open u`: the bridge `u` is not settled.
pub record Settling (g : Graph) (key : ℕ → ℕ) (r : ℕ) (Open : ℕ → Type 0) (Settled : ℕ → List ℕ → Type 0) : Type 0 where
  pub final : (v : ℕ) (p : List ℕ) → Settled v p → Chosen g key v r p
  pub root : Settled r (r ∷ [])
  pub each : (u : ℕ) → u < g.size → Open u ⊎ ((p : List ℕ) × Settled u p)
  pub apart : (u : ℕ) (p : List ℕ) → Open u → Settled u p → ⊥

-- A candidate: an open bridge `u` with a settled neighbour `v` that is the root or may lie between, and the path `u ∷ p` through it.
pub record Candidate (g : Graph) (r : ℕ) (Open : ℕ → Type 0) (Settled : ℕ → List ℕ → Type 0) (u v : ℕ) (p : List ℕ) : Type 0 where
  pub waits : Open u
  pub settled : Settled v p
  pub joined : Joined g u v
  pub passes : (v ≡ r) ⊎ T (g.between v)

-- What a search knows of the candidate `u ∷ p` without a copy of it: its cost, its hop count, and its next hop's PATHID.
abbrev pub candidate_rank : Graph → (ℕ → ℕ) → ℕ → List ℕ → List ℕ
candidate_rank g key u p = cost g (u ∷ p) ∷ hops (u ∷ p) ∷ path_id key p

-- Each open bridge with a candidate has a label: one of its candidates, `u ∷ p` through `v`, than which none is lower.
pub record Labels (g : Graph) (key : ℕ → ℕ) (r : ℕ) (Open : ℕ → Type 0) (Settled : ℕ → List ℕ → Type 0)
    (Label : ℕ → ℕ → List ℕ → Type 0) : Type 0 where
  pub candidate : (u v : ℕ) (p : List ℕ) → Label u v p → Candidate g r Open Settled u v p
  pub lowest : (u v : ℕ) (p : List ℕ) → Label u v p → (w : ℕ) (q : List ℕ) → Candidate g r Open Settled u w q
      → Lower (rank g key (u ∷ q)) (rank g key (u ∷ p)) → ⊥
  pub labelled : (u w : ℕ) (q : List ℕ) → Candidate g r Open Settled u w q → (v : ℕ) × (p : List ℕ) × Label u v p
