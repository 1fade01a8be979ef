-- Handing copies down by the definition of chosen paths meets what the laws of copies ask.
-- Assumes nothing.
use Rattle.std.specs.Prelude.{ℕ, ◌<◌, ◌≡◌, refl, List, [], ◌∷◌, Bool, true, false, ◌&&◌, ◌||◌, T, eqb}
use Rattle.std.proofs.Common.{arith, sym, subst, inl, inr, eqb→eq}
use Rattle.std.proofs.Math.Option.{Option, none, some}
use Rattle.lists.specs.Lists.{rising, selected, any_passes}
use Rattle.graph.specs.Graph.{Graph, GraphLaws, KeyLaws}
use Rattle.graph.specs.Chosen.{Chosen, chosen}
use Rattle.lists.specs.Members.{In}
use Rattle.graph.proofs.laws.Notions.{Leaves}
use Rattle.graph.proofs.laws.Moves.{leaves, leaves_on, handed, Feeds, HandsDown}
use Rattle.lists.proofs.laws.NumberLaws.{eq_eqb, both, first_of, last_of}
use Rattle.lists.proofs.laws.SelectedLaws.{selected-in, in-selected, any-in, in-any, in-rising}
use Rattle.lists.proofs.laws.DistinctLaws.{distinct-selected, distinct-rising}
use Rattle.graph.proofs.laws.Paths.{entered-inside, end-inside}
use Rattle.graph.proofs.laws.Enumeration.{chosen_is, is_chosen}
use Rattle.graph.proofs.laws.Forwarding.{departure}

-- The test says the same as `Leaves`.
pub test-leaves : (c v : ℕ) (p : List ℕ) → T (leaves c v p) → Leaves c v p
unfolding leaves
test-leaves c v [] h = h
test-leaves c v (x ∷ []) h = h
test-leaves c v (x ∷ y ∷ t) h = go (eqb c x) (eqb v y) (eqb→eq c x) (eqb→eq v y) h (test-leaves c v (y ∷ t))
  where
    go : (a b : Bool) → (T a → c ≡ x) → (T b → v ≡ y) → T ((a && b) || leaves c v (y ∷ t)) → (T (leaves c v (y ∷ t)) → Leaves c v (y ∷ t))
        → Leaves c v (x ∷ y ∷ t)
    go true true e f h ih = inl (e tt, f tt)
    go true false e f h ih = inr (ih h)
    go false b e f h ih = inr (ih h)

pub leaves-test : (c v : ℕ) (p : List ℕ) → Leaves c v p → T (leaves c v p)
unfolding leaves
leaves-test c v [] h = h
leaves-test c v (x ∷ []) h = h
leaves-test c v (x ∷ y ∷ t) (inl (e, f)) = here (eqb c x) (eqb v y) (eq_eqb c x e) (eq_eqb v y f)
  where
    here : (a b : Bool) → T a → T b → T ((a && b) || leaves c v (y ∷ t))
    here true true h k = tt
    here true false h k = absurd k
    here false b h k = absurd h
leaves-test c v (x ∷ y ∷ t) (inr h) = there (eqb c x && eqb v y) (leaves-test c v (y ∷ t) h)
  where
    there : (b : Bool) → T (leaves c v (y ∷ t)) → T (b || leaves c v (y ∷ t))
    there true k = tt
    there false k = k

-- "A receiver is another bridge .. whose chosen path from the transmitter passes this bridge and leaves it there" (01, "Entries"):
-- at each bridge the definition lists once each bridge to which such a path goes from there, and no other.
pub handed_hands_down : (g : Graph) → GraphLaws g → (key : ℕ → ℕ) → KeyLaws g key → (s : ℕ) (receives : ℕ → Bool)
    → HandsDown g key s (λ r. T (receives r)) (handed g key s receives)
unfolding handed
handed_hands_down g L key K s receives = record {
  once = λ c l. distinct-selected (wanted c) (rising 0 g.size) (distinct-rising 0 g.size);
  fed = λ c v l h. found c v (any-in (passes c v) (rising 0 g.size) (selected-in (wanted c) v (rising 0 g.size) h).1);
  feeds = λ c v l h. listed c v h;
}
  where
    passes : ℕ → ℕ → ℕ → Bool
    passes c v r = receives r && leaves_on c v (chosen g key s r)

    wanted : ℕ → ℕ → Bool
    wanted c v = any_passes (passes c v) (rising 0 g.size)

    path : (c v r : ℕ) → T (receives r) → (o : Option (List ℕ)) → chosen g key s r ≡ o → T (leaves_on c v o) → Feeds g key s (λ r. T (receives r)) c v
    path c v r k none e h = absurd h
    path c v r k (some p) e h = (r, k, p, chosen_is g L key K s r p e, test-leaves c v p h)

    found : (c v : ℕ) → ((r : ℕ) × In r (rising 0 g.size) × T (receives r && leaves_on c v (chosen g key s r))) → Feeds g key s (λ r. T (receives r)) c v
    found c v (r, i, h) = path c v r (first_of (receives r) (leaves_on c v (chosen g key s r)) h) (chosen g key s r) refl
        (last_of (receives r) (leaves_on c v (chosen g key s r)) h)

    inside : (u : ℕ) → u < g.size → In u (rising 0 g.size)
    inside u l = in-rising 0 g.size u (omega arith) (omega arith)

    listed : (c v : ℕ) → Feeds g key s (λ r. T (receives r)) c v → In v (selected (wanted c) (rising 0 g.size))
    listed c v (r, k, p, P, h) = go (departure g key s r p c v P h)
      where
        test : T (leaves_on c v (chosen g key s r))
        test = subst (λ (o : Option (List ℕ)). T (leaves_on c v o)) (sym (is_chosen g L key K s r p P)) (leaves-test c v p h)

        go : ((t : List ℕ) × Chosen g key c r (c ∷ v ∷ t)) → In v (selected (wanted c) (rising 0 g.size))
        go (t, D) = in-selected (wanted c) v (rising 0 g.size) (inside v (entered-inside g L c v D.path.1.0))
            (in-any (passes c v) r (rising 0 g.size) (inside r (end-inside g L c v t r D.path.1))
            (both (receives r) (leaves_on c v (chosen g key s r)) k test))
