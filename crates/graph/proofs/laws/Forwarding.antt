-- Individual frames: following at each bridge the second bridge of its chosen path to b visits exactly the chosen path (demand 3).
-- Assumes nothing.
use Prim.Native.Nat.{ℕ, zero, suc, ◌≤◌, ◌<◌}
use Rattle.std.proofs.Common.{arith, sym, ◌∙◌, inl, inr}
use Rattle.std.specs.Prelude.{◌≡◌, eqb, length}
use Rattle.std.proofs.Math.Path.{refl, ap, subst}
use mathlib.Core.List.{List, [], ◌∷◌, ◌++◌, reverse, append_assoc, reverse-append, reverse-cons}
use Rattle.std.proofs.Math.Option.{Option, some}
use Rattle.std.proofs.Math.Bool.{cond}
use Rattle.std.proofs.lemmas.List.{length-reverse}
use Rattle.graph.specs.Graph.{Graph, GraphLaws, KeyLaws, hops}
use Rattle.graph.specs.Chosen.{Chosen}
use Rattle.graph.proofs.laws.Notions.{Least, Leaves}
use Rattle.graph.proofs.laws.Moves.{second, next_hop, enters, stood}
use Rattle.lists.proofs.laws.NumberLaws.{eqb_same, eqb-other}
use Rattle.graph.proofs.laws.ChosenPaths.{chosen-first, chosen_self, chosen-rest, chosen-start, chosen-reverse}
use Rattle.graph.proofs.laws.Enumeration.{is_chosen}

-- A list that leaves `c` for `v` has a part before and a part after the two.
pub leaves-split : (c v : ℕ) (p : List ℕ) → Leaves c v p → (xs : List ℕ) × (ys : List ℕ) × (p ≡ xs ++ (c ∷ v ∷ ys))
leaves-split c v [] h = elim h [ ]
leaves-split c v (x ∷ []) h = elim h [ ]
leaves-split c v (x ∷ y ∷ t) (inl (e, f)) = ([], t, cc (e, f))
leaves-split c v (x ∷ y ∷ t) (inr h) = go (leaves-split c v (y ∷ t) h)
  where
    go : ((xs : List ℕ) × (ys : List ℕ) × (y ∷ t ≡ xs ++ (c ∷ v ∷ ys))) → (xs : List ℕ) × (ys : List ℕ) × (x ∷ y ∷ t ≡ xs ++ (c ∷ v ∷ ys))
    go (xs, ys, e) = (x ∷ xs, ys, ap (λ (z : List ℕ). x ∷ z) e)

pub split-leaves : (xs : List ℕ) (c v : ℕ) (ys : List ℕ) → Leaves c v (xs ++ (c ∷ v ∷ ys))
split-leaves [] c v ys = inl (refl, refl)
split-leaves (x ∷ []) c v ys = inr (split-leaves [] c v ys)
split-leaves (x ∷ y ∷ xs) c v ys = inr (split-leaves (y ∷ xs) c v ys)

second_more : (xs ys : List ℕ) → 1 < length xs → second (some (xs ++ ys)) ≡ second (some xs)
second_more [] ys l = absurd (omega arith)
second_more (x ∷ []) ys l = absurd (omega arith)
second_more (x ∷ y ∷ xs) ys l = refl

module _ (g : Graph) (key : ℕ → ℕ) where
  -- The rest of the chosen path after a hop is the chosen path from there.
  pub chosen-after : (a v b : ℕ) (t : List ℕ) → Chosen g key a b (a ∷ v ∷ t) → Chosen g key v b (v ∷ t)
  chosen-after a v b t P = chosen-rest g key a b (a ∷ []) v t P

  -- A chosen path with a hop leads to another bridge.
  pub chosen-other : (a v b : ℕ) (t : List ℕ) → Chosen g key a b (a ∷ v ∷ t) → a ≡ b → ⊥
  chosen-other a v b t P e =
      let f : a ∷ v ∷ t ≡ a ∷ [] = chosen_self g key a (a ∷ v ∷ t) (subst (λ (z : ℕ). Chosen g key a z (a ∷ v ∷ t)) (sym e) P) in
      omega (arith, ap (λ (z : List ℕ). length z) f)

  -- "a frame from a, moved by the entries for b, reaches b along the path given" (demand 3): for every number of moves from the
  -- path's hops on, the bridges where the frame stood are the chosen path. `next` may be anything that gives the second bridge.
  pub stands-on-path : (b : ℕ) (next : ℕ → Option ℕ) → ((u v : ℕ) (t : List ℕ) → Chosen g key u b (u ∷ v ∷ t) → next u ≡ some v)
      → (n a : ℕ) (t : List ℕ) → Chosen g key a b (a ∷ t) → length t ≤ n → stood next b n a ≡ a ∷ t
  unfolding stood
  stands-on-path b next follows zero a [] P l = refl
  stands-on-path b next follows zero a (v ∷ t) P l = absurd (omega arith)
  stands-on-path b next follows (suc n) a [] P l = ap (λ (z : List ℕ). a ∷ z) stops
    where
      stops : cond (eqb a b) [] (enters (stood next b n) (next a)) ≡ []
      stops = subst (λ (z : ℕ). cond (eqb a z) [] (enters (stood next b n) (next a)) ≡ []) P.path.1 (eqb_same a [] (enters (stood next b n) (next a)))
  stands-on-path b next follows (suc n) a (v ∷ t) P l =
      ap (λ (z : List ℕ). a ∷ z)
      (eqb-other a b [] (enters (stood next b n) (next a)) (chosen-other a v b t P)
      ∙ ap (λ (o : Option ℕ). enters (stood next b n) o) (follows a v t P)
      ∙ stands-on-path b next follows n v t (chosen-after a v b t P) (omega arith))

  pub stands-on-chosen : (b : ℕ) (next : ℕ → Option ℕ) → ((u v : ℕ) (t : List ℕ) → Chosen g key u b (u ∷ v ∷ t) → next u ≡ some v)
      → (n a : ℕ) (p : List ℕ) → Chosen g key a b p → hops p ≤ n → stood next b n a ≡ p
  stands-on-chosen b next follows n a p P l = go (chosen-first g key a b p P)
    where
      go : ((t : List ℕ) × (p ≡ a ∷ t) × Least g a t b) → stood next b n a ≡ p
      go (t, e, W) = stands-on-path b next follows n a t (rw e at P) (omega (arith, ap hops e)) ∙ sym e

  -- From each bridge on the way the frame goes where the chosen path from there goes ("the port of the first hop's link": 01, "Entries").
  pub departure : (a b : ℕ) (p : List ℕ) (c v : ℕ) → Chosen g key a b p → Leaves c v p → (t : List ℕ) × Chosen g key c b (c ∷ v ∷ t)
  departure a b p c v P h = go (leaves-split c v p h)
    where
      go : ((xs : List ℕ) × (ys : List ℕ) × (p ≡ xs ++ (c ∷ v ∷ ys))) → (t : List ℕ) × Chosen g key c b (c ∷ v ∷ t)
      go (xs, ys, e) = (ys, chosen-rest g key a b xs c (v ∷ ys) (rw e at P))

module _ (g : Graph) (L : GraphLaws g) (key : ℕ → ℕ) where
  -- "At each bridge that the frame from a enters, the entry for a names the arrival port" (demand 3):
  -- from a bridge `v` entered from `c` the chosen path back to `a` begins with the hop to `c`.
  pub arrival : (a b : ℕ) (p : List ℕ) (c v : ℕ) → Chosen g key a b p → Leaves c v p → (t : List ℕ) × Chosen g key v a (v ∷ c ∷ t)
  arrival a b p c v P h = go (leaves-split c v p h)
    where
      turned : (xs : List ℕ) → reverse ((xs ++ (c ∷ [])) ++ (v ∷ [])) ≡ v ∷ c ∷ reverse xs
      turned xs = reverse-append (xs ++ (c ∷ [])) (v ∷ []) ∙ ap (λ (z : List ℕ). v ∷ z) (reverse-append xs (c ∷ []))

      go : ((xs : List ℕ) × (ys : List ℕ) × (p ≡ xs ++ (c ∷ v ∷ ys))) → (t : List ℕ) × Chosen g key v a (v ∷ c ∷ t)
      go (xs, ys, e) = (
        reverse xs,
        subst (λ (z : List ℕ). Chosen g key v a z) (turned xs)
            (chosen-reverse g L key a v ((xs ++ (c ∷ [])) ++ (v ∷ [])) (chosen-start g key a b (xs ++ (c ∷ [])) v ys
            (subst (λ (z : List ℕ). Chosen g key a b z) (e ∙ sym (append_assoc xs (c ∷ []) (v ∷ ys))) P))),
      )

  module _ (K : KeyLaws g key) where
    pub second_is_next : (b u v : ℕ) (t : List ℕ) → Chosen g key u b (u ∷ v ∷ t) → next_hop g key b u ≡ some v
    second_is_next b u v t P = ap second (is_chosen g L key K u b (u ∷ v ∷ t) P)

    -- Following at each bridge the second bridge of its chosen path to b visits exactly the chosen path
    -- ("the bridges where it stood, in order, are that path": 01, "Frames").
    pub following_visits : (b n a : ℕ) (p : List ℕ) → Chosen g key a b p → hops p ≤ n → stood (next_hop g key b) b n a ≡ p
    following_visits b n a p P l = stands-on-chosen g key b (next_hop g key b) (second_is_next b) n a p P l

    -- "the port of the first hop's link" (01, "Entries"), from a tree rooted at `r` that carries paths to `r`: where a frame from the
    -- root for `u` goes first falls out when `u` is settled. It is `u` itself beside the root, and where a frame for the next hop goes elsewhere.
    root_next : (u r : ℕ) (p : List ℕ) → Chosen g key u r p → next_hop g key u r ≡ second (some (reverse p))
    root_next u r p P = ap second (is_chosen g L key K r u (reverse p) (chosen-reverse g L key u r p P))

    pub first-hop-beside : (u r : ℕ) → Chosen g key u r (u ∷ r ∷ []) → next_hop g key u r ≡ some u
    first-hop-beside u r P = root_next u r (u ∷ r ∷ []) P

    pub first-hop-beyond : (u v r : ℕ) (q : List ℕ) → (v ≡ r → ⊥) → Chosen g key v r q → Chosen g key u r (u ∷ q) → next_hop g key u r ≡ next_hop g key v r
    first-hop-beyond u v r q n Q P =
        root_next u r (u ∷ q) P ∙ ap (λ (p : List ℕ). second (some p)) (reverse-cons u q) ∙ second_more (reverse q) (u ∷ []) longer ∙ sym (root_next v r q Q)
      where
        longer : 1 < length (reverse q)
        longer = go (chosen-first g key v r q Q)
          where
            go : ((t : List ℕ) × (q ≡ v ∷ t) × Least g v t r) → 1 < length (reverse q)
            go ([], e, W) = absurd (n W.way)
            go (x ∷ t, e, W) = omega (arith, length-reverse q, ap (λ (z : List ℕ). length z) e)
