-- Neighbour lists that stand for a graph: what a neighbour is offered. And the end of a search: its labels say the chosen paths.
-- Assumes nothing.
use Rattle.std.specs.Prelude.{ℕ, ◌+◌, ◌≤◌, ◌<◌, ◌≡◌, List, [], ◌∷◌, ◌⊎◌, T, length, get_or}
use Rattle.std.proofs.Common.{arith, sym, ap, ◌∙◌, inl, inr, ltb→lt, lt→ltb}
use Rattle.std.proofs.Math.Option.{Option, none, some}
use Rattle.lists.proofs.laws.NumberLaws.{le_or_gt, same_or_not}
use Rattle.graph.specs.Graph.{Graph, Joined}
use Rattle.graph.proofs.laws.Notions.{Least}
use Rattle.graph.proofs.laws.Paths.{entered-inside}
use Rattle.graph.specs.Chosen.{Chosen, chosen}
use Rattle.graph.proofs.laws.Enumeration.{chosen_is}
use Rattle.graph.proofs.laws.ChosenPaths.{chosen-first}
use Rattle.graph.specs.Lookups.{Says}
use Rattle.graph.proofs.laws.LookupLaws.{kept_ends}
use Rattle.labels.specs.Labels.{no_cost, Label, label_at, state_of}
use Rattle.labels.proofs.laws.LabelLaws.{says-settled}
use Rattle.labels.specs.Relaxing.{Unchanged, Changed, Relaxed}
use Rattle.tree.specs.Trees.{mark_at, Represents, Keyed, next_of, SaysPath}
use Rattle.tree.specs.Tracked.{Tracked}

-- The settled bridge `u`, which is not the root, passes the way on: its neighbours were offered the way through it where it may lie
-- between, and nothing where it may not.
pub record PassedOn (starts neighbours costs path-ids : List ℕ) (u : ℕ) (labels labels' : List ℕ) : Type 0 where
  pub same_length : length labels' ≡ length labels
  pub offered : mark_at starts u ≡ 0 → Relaxed starts neighbours costs path-ids u labels labels'
  pub kept_back : (mark_at starts u ≡ 0 → ⊥) → labels' ≡ labels

module _ {g : Graph} {n : ℕ} {starts neighbours costs : List ℕ} (R : Represents g n starts neighbours costs) (u : ℕ) (u_in : u < n) where
  pub neighbour_in : (i : ℕ) → get_or starts u 0 ≤ i → i < get_or starts (u + 1) 0 → get_or neighbours i 0 < n
  neighbour_in i h k = omega (arith, entered-inside g R.laws u (get_or neighbours i 0) (R.joined u i u_in h k), R.size_is)

  -- What the neighbour `x` at a place is offered.
  pub offered-cost : (i x : ℕ) → get_or starts u 0 ≤ i → i < get_or starts (u + 1) 0 → get_or neighbours i 0 ≡ x → get_or costs i 0 ≡ g.hop x u
  offered-cost i x h k e = R.cost_is u i u_in h k ∙ ap (g.hop u) e ∙ R.laws.symmetric u x

  pub offered-joined : (i x : ℕ) → get_or starts u 0 ≤ i → i < get_or starts (u + 1) 0 → get_or neighbours i 0 ≡ x → Joined g x u
  offered-joined i x h k e = omega (arith, R.joined u i u_in h k, R.cost_is u i u_in h k, offered-cost i x h k e)

  pub joined-listed : (x : ℕ) → Joined g x u → (i : ℕ) × (get_or starts u 0 ≤ i) × (i < get_or starts (u + 1) 0) × (get_or neighbours i 0 ≡ x)
  joined-listed x j = R.listed u x u_in (omega (arith, R.laws.symmetric u x))

  pub one_cost : (i j : ℕ) → get_or starts u 0 ≤ i → i < get_or starts (u + 1) 0 → get_or starts u 0 ≤ j → j < get_or starts (u + 1) 0
      → get_or neighbours i 0 ≡ get_or neighbours j 0 → get_or costs i 0 ≡ get_or costs j 0
  one_cost i j h k l m e = R.cost_is u i u_in h k ∙ ap (g.hop u) e ∙ sym (R.cost_is u j u_in l m)

  -- Who is offered the way through `u` is one of the first `n` bridges: beyond them labels stay as they are.
  pub beyond-same : {path-ids labels labels' : List ℕ} → Relaxed starts neighbours costs path-ids u labels labels' → (x : ℕ) → n ≤ x → x < 64
      → label_at labels' x ≡ label_at labels x
  beyond-same {path-ids} {labels} {labels'} X x l k = go (X.each x k)
    where
      go : Unchanged neighbours costs path-ids u (get_or starts u 0) (get_or starts (u + 1) 0) labels labels' x
          ⊎ Changed neighbours costs path-ids u (get_or starts u 0) (get_or starts (u + 1) 0) labels labels' x → label_at labels' x ≡ label_at labels x
      go (inl U) = U.same
      go (inr C) = absurd (omega (arith, C.offered, neighbour_in C.place C.after C.before))

  -- So they do where `u` passes the way on.
  pub beyond-kept : {path-ids labels labels' : List ℕ} → PassedOn starts neighbours costs path-ids u labels labels' → (x : ℕ) → n ≤ x → x < 64
      → label_at labels' x ≡ label_at labels x
  beyond-kept {path-ids} {labels} {labels'} X x l k = go (same_or_not (mark_at starts u) 0)
    where
      go : (mark_at starts u ≡ 0) ⊎ (mark_at starts u ≡ 0 → ⊥) → label_at labels' x ≡ label_at labels x
      go (inl e) = beyond-same (X.offered e) x l k
      go (inr f) = ap (λ (z : List ℕ). label_at z x) (X.kept_back f)

-- With no bridge waiting each label says the chosen path.
module _ (g : Graph) (key : ℕ → ℕ) (n root : ℕ) (starts neighbours costs keys : List ℕ) (R : Represents g n starts neighbours costs) (K : Keyed g key keys)
    (labels path-ids : List ℕ) (M : Tracked g key n root labels path-ids) (none_waits : (x : ℕ) → x < n → no_cost ≤ (label_at labels x).waits) where
  none_left : (x : ℕ) → x < g.size → (T ((state_of n labels path-ids).settled x) → ⊥) → T ((state_of n labels path-ids).labelled x) → ⊥
  none_left x i f k = f (says-settled n labels path-ids x (omega (arith, R.size_is)) (ltb→lt (label_at labels x).cost no_cost k)
      (none_waits x (omega (arith, R.size_is))))

  next_is : (u : ℕ) (p : List ℕ) → Chosen g key u root p → Says g key (state_of n labels path-ids) u p → (label_at labels u).next ≡ next_of p
  next_is u p P S = go (chosen-first g key u root p P)
    where
      go : ((t : List ℕ) × (p ≡ u ∷ t) × Least g u t root) → (label_at labels u).next ≡ next_of p
      go ([], e, W) = ap (λ (k : ℕ). (label_at labels k).next) W.way ∙ M.root_next ∙ sym W.way ∙ ap next_of (sym e)
      go (v ∷ t, e, W) = S.next_is v t e ∙ ap next_of (sym e)

  pub search_paths : (u : ℕ) → u < g.size → SaysPath g (chosen g key u root) (label_at labels u)
  search_paths u i = go u i (kept_ends g R.laws key root (state_of n labels path-ids) M.kept K.laws none_left u i)
    where
      go : (u : ℕ) → u < g.size
          → ((p : List ℕ) × T ((state_of n labels path-ids).settled u) × (chosen g key u root ≡ some p) × Says g key (state_of n labels path-ids) u p)
          ⊎ ((T ((state_of n labels path-ids).settled u) → ⊥) × (chosen g key u root ≡ none))
          → SaysPath g (chosen g key u root) (label_at labels u)
      go u i (inl (p, k, e, S)) = let P = chosen_is g R.laws key K.laws u root p e in
          rw e (S.far_is, S.steps_is, next_is u p P S, M.first_is u (omega (arith, R.size_is)) k p P)
      go u i (inr (f, e)) = rw e (no_cost_lem (le_or_gt no_cost (label_at labels u).cost))
        where
          no_cost_lem : (no_cost ≤ (label_at labels u).cost) ⊎ ((label_at labels u).cost < no_cost) → (label_at labels u).cost ≡ no_cost
          no_cost_lem (inl l) = omega (arith, M.cost_at_most u (omega (arith, R.size_is)))
          no_cost_lem (inr l) = absurd (none_left u i f (lt→ltb (label_at labels u).cost no_cost l))

-- What a label says of a path is in its cost, hops, next hop and first hop.
pub says-alike : (g : Graph) (o : Option (List ℕ)) (b b' : Label) → b'.cost ≡ b.cost → b'.hops ≡ b.hops → b'.next ≡ b.next → b'.first ≡ b.first
    → SaysPath g o b → SaysPath g o b'
says-alike g none b b' c h n f s = c ∙ s
says-alike g (some p) b b' c h n f s = (c ∙ s.0, h ∙ s.1, n ∙ s.2, f ∙ s.3)
