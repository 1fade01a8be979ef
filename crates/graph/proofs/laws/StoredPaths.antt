-- A test of stored paths to one bridge that lists no other paths (docs/ARCHIVE.md): each path is compared with the neighbours' paths alone, and
-- what passes the test is what is chosen (01, "The chosen path").
-- Assumes nothing.
use Rattle.std.specs.Prelude.{ℕ, ◌≡◌, refl, List, [], ◌∷◌, ◌⊎◌}
use Rattle.std.proofs.Common.{sym, ap, ◌∙◌, subst, inl, inr}
use Rattle.std.proofs.Math.Option.{Option, none, some}
use Rattle.graph.specs.Order.{Lower}
use Rattle.graph.specs.Graph.{Graph, GraphLaws, KeyLaws, Joined, GoesOn, IsPath, rank}
use Rattle.graph.specs.Chosen.{Chosen, chosen}
use Rattle.lists.proofs.laws.MemberLaws.{nil_not_cons}
use Rattle.graph.proofs.laws.ChosenPaths.{chosen-first, chosen_self, chosen-rest}
use Rattle.graph.proofs.laws.Enumeration.{chosen-or_no_path, is_chosen, no_path-none}

-- For each bridge the stored path to `b`, or none. What is stored is a path; that of `b` is `b` alone; and where a neighbour has a path, a
-- bridge has one that ranks no higher than the neighbour's path with that hop put before it.
pub record Stored (g : Graph) (key : ℕ → ℕ) (b : ℕ) (path : ℕ → Option (List ℕ)) : Type 0 where
  pub is_path : (u : ℕ) (p : List ℕ) → path u ≡ some p → IsPath g u b p
  pub own : path b ≡ some (b ∷ [])
  pub no_higher : (u v : ℕ) (t : List ℕ) → (u ≡ b → ⊥) → Joined g u v → GoesOn g v t → path v ≡ some (v ∷ t)
      → (p : List ℕ) × (path u ≡ some p) × (Lower (rank g key (u ∷ v ∷ t)) (rank g key p) → ⊥)

module _ (g : Graph) (key : ℕ → ℕ) (b : ℕ) (path : ℕ → Option (List ℕ)) (S : Stored g key b path) where
  -- From the last bridge of the chosen path to its first: each has its chosen path stored.
  chosen-stored : (t : List ℕ) (u : ℕ) → Chosen g key u b (u ∷ t) → path u ≡ some (u ∷ t)
  chosen-stored [] u P = ap path P.path.1 ∙ S.own ∙ ap (λ (x : ℕ). some (x ∷ [])) (sym P.path.1)
  chosen-stored (v ∷ t) u P = go (S.no_higher u v t apart P.path.1.0 P.path.1.1 (chosen-stored t v (chosen-rest g key u b (u ∷ []) v t P)))
    where
      apart : u ≡ b → ⊥
      apart e = let z : u ∷ v ∷ t ≡ u ∷ [] = chosen_self g key u (u ∷ v ∷ t) (subst (λ (x : ℕ). Chosen g key u x (u ∷ v ∷ t)) (sym e) P)
          in let y : v ∷ t ≡ [] = cc
          in nil_not_cons (sym y)

      go : ((p : List ℕ) × (path u ≡ some p) × (Lower (rank g key (u ∷ v ∷ t)) (rank g key p) → ⊥)) → path u ≡ some (u ∷ v ∷ t)
      go (p, e, f) = other (P.least p (S.is_path u p e))
        where
          other : (p ≡ u ∷ v ∷ t) ⊎ Lower (rank g key (u ∷ v ∷ t)) (rank g key p) → path u ≡ some (u ∷ v ∷ t)
          other (inl h) = e ∙ ap some h
          other (inr h) = absurd (f h)

  -- Every path that is stored is the chosen one, and where none is stored none exists.
  pub stored-chosen : GraphLaws g → KeyLaws g key → (u : ℕ) → path u ≡ chosen g key u b
  stored-chosen L K u = go (chosen-or_no_path g L key K u b)
    where
      none-stored : ((p : List ℕ) → IsPath g u b p → ⊥) → (o : Option (List ℕ)) → path u ≡ o → o ≡ none
      none-stored f none e = refl
      none-stored f (some p) e = absurd (f p (S.is_path u p e))

      first : (p : List ℕ) → Chosen g key u b p → path u ≡ some p
      first p P = let (t, e, W) = chosen-first g key u b p P
          in chosen-stored t u (subst (Chosen g key u b) e P) ∙ ap some (sym e)

      go : ((p : List ℕ) × Chosen g key u b p) ⊎ ((p : List ℕ) → IsPath g u b p → ⊥) → path u ≡ chosen g key u b
      go (inl (p, P)) = first p P ∙ sym (is_chosen g L key K u b p P)
      go (inr f) = none-stored f (path u) refl ∙ sym (no_path-none g L key u b f)
