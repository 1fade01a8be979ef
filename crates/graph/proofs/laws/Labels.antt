-- A search with labels: the nearest labelled bridge may be settled, and with no label left every bridge with a path is.
-- Assumes nothing.
use Rattle.std.specs.Prelude.{ℕ, ◌≤◌, ◌<◌, ◌≡◌, List, ◌∷◌, ◌⊎◌}
use Rattle.std.proofs.Common.{arith, inl, inr}
use Rattle.std.proofs.Math.Option.{none, some}
use Rattle.graph.specs.Graph.{Graph, GraphLaws, KeyLaws, IsPath, cost}
use Rattle.graph.specs.Chosen.{Chosen, chosen}
use Rattle.graph.proofs.laws.Search.{Settling, Candidate, Labels}
use Rattle.graph.proofs.laws.ChosenPaths.{not-lower-cost}
use Rattle.graph.proofs.laws.Enumeration.{is_chosen, no_path-none}
use Rattle.graph.proofs.laws.Settling.{settles, complete}

module _ (g : Graph) (key : ℕ → ℕ) (r : ℕ) (Open : ℕ → Type 0) (Settled : ℕ → List ℕ → Type 0) where
  module _ (Label : ℕ → ℕ → List ℕ → Type 0) (M : Labels g key r Open Settled Label) where
    -- A labelled bridge than which no labelled bridge is nearer costs no more than any candidate.
    nearest : (u : ℕ) (p : List ℕ) → ((x y : ℕ) (q : List ℕ) → Label x y q → cost g (u ∷ p) ≤ cost g (x ∷ q))
        → (x y : ℕ) (q : List ℕ) → Candidate g r Open Settled x y q → cost g (u ∷ p) ≤ cost g (x ∷ q)
    nearest u p near x y q C = go (M.labelled x y q C)
      where
        go : ((v : ℕ) × (s : List ℕ) × Label x v s) → cost g (u ∷ p) ≤ cost g (x ∷ q)
        go (v, s, l) = omega (arith, near x v s l, not-lower-cost g key (x ∷ s) (x ∷ q) (M.lowest x v s l y q C))

    -- The nearest labelled bridge may be settled: its label is its chosen path to the root.
    pub nearest-settles : GraphLaws g → KeyLaws g key → Settling g key r Open Settled → (u v : ℕ) (p : List ℕ) → Label u v p
        → ((x y : ℕ) (q : List ℕ) → Label x y q → cost g (u ∷ p) ≤ cost g (x ∷ q)) → Chosen g key u r (u ∷ p)
    nearest-settles L K S u v p l near =
        settles g L key r Open Settled S K u v p (M.candidate u v p l) (nearest u p near) (M.lowest u v p l)

    -- With no label left, every bridge with a path to the root is settled.
    pub none_left : GraphLaws g → Settling g key r Open Settled → ((u v : ℕ) (p : List ℕ) → Label u v p → ⊥)
        → (u : ℕ) (q : List ℕ) → IsPath g u r q → (p : List ℕ) × Settled u p
    none_left L S no_label = complete g L key r Open Settled S (λ u v p C. go (M.labelled u v p C))
      where
        go : {u : ℕ} → ((v : ℕ) × (p : List ℕ) × Label u v p) → ⊥
        go {u} (v, p, l) = no_label u v p l

    -- Then a bridge of the graph is settled with the path that the definition gives, or open where it gives none.
    pub search_ends : GraphLaws g → KeyLaws g key → Settling g key r Open Settled → ((u v : ℕ) (p : List ℕ) → Label u v p → ⊥)
        → (u : ℕ) → u < g.size → ((p : List ℕ) × Settled u p × (chosen g key u r ≡ some p)) ⊎ (Open u × (chosen g key u r ≡ none))
    search_ends L K S no_label u l = go (S.each u l)
      where
        shut : Open u → ((p : List ℕ) × Settled u p) → ⊥
        shut w (p, k) = S.apart u p w k

        go : Open u ⊎ ((p : List ℕ) × Settled u p) → ((p : List ℕ) × Settled u p × (chosen g key u r ≡ some p)) ⊎ (Open u × (chosen g key u r ≡ none))
        go (inl w) = inr (w, no_path-none g L key u r (λ q o. shut w (none_left L S no_label u q o)))
        go (inr (p, k)) = inl (p, k, is_chosen g L key K u r p (S.final u p k))
