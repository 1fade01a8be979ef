-- An amount added along a path, hop by hop. Assumes nothing.
use Prim.Native.Nat.{ℕ, suc, ◌+◌, ◌*◌, ◌-◌, ◌≤◌, ◌<◌}
use Rattle.std.proofs.Common.{arith, mul-le-mul_right, add-one, sym, ◌∙◌, subst, inl, inr, length-set, eq-eqb, ne_eqb}
use Rattle.std.specs.Prelude.{◌≡◌, List, ◌∷◌, Bool, true, false, length, get_or}
use Rattle.std.proofs.Math.Path.{refl, ap}
use Rattle.std.proofs.Math.Bool.{cond}
use Rattle.lists.specs.Members.{In, EveryTwo}
use Rattle.lists.proofs.laws.ListNotions.{Distinct}
use Rattle.lists.proofs.laws.DistinctLaws.{every-two-distinct}
use Rattle.lists.proofs.laws.NumberLaws.{is_true}
use Rattle.graph.specs.Pairs.{Pair, is_hop_of, takes}
use Rattle.graph.proofs.laws.PairLaws.{taken-once}
use Rattle.labels.specs.Labels.{no_cost, label_at}
use Rattle.path.specs.Followed.{followed}
use Rattle.path.proofs.laws.FollowedLaws.{followed-length}
use Rattle.loads.specs.Places.{Placed, load_at, hop_place, hop_added, Room, PathAdded}
use Rattle.loads.specs.Sums.{PassesOnce, Passable, labelled_option, RecordAdded}
use Rattle.loads.proofs.laws.PlaceLaws.{pair_of_hop, hop_added_lem}

-- A list that has no two equal has nothing twice.
once-distinct : (xs : List ℕ) → EveryTwo (λ x y. x ≡ y → ⊥) xs → Distinct xs
once-distinct xs E = every-two-distinct (λ x y. x ≡ y → ⊥) xs E (λ x i f. f refl)

pub at_most : (b : Bool) (n : ℕ) → cond b n 0 ≤ n
at_most true n = omega arith
at_most false n = omega arith

-- The amount was added for the hops up to the bridge `u`; `left` hops are left.
pub record Going (labels before now : List ℕ) (amount from hops u left : ℕ) : Type 0 where
  pub same_length : length now ≡ length before
  pub within : left ≤ hops
  pub rest : PassesOnce labels u (suc left)
  pub each : (q : Pair) → Placed q
      → load_at now q + cond (takes q (followed labels u (suc left))) amount 0 ≡ load_at before q + cond (takes q (followed labels from (suc hops))) amount 0

pub going_starts : (labels before : List ℕ) (amount from hops : ℕ) → PassesOnce labels from (hops + 1) → Going labels before before amount from hops from hops
going_starts labels before amount from hops P =
    record {
      same_length = refl;
      within = omega arith;
      rest = subst (PassesOnce labels from) (add-one hops) P;
      each = λ q h. refl;
    }

module _ {labels before now : List ℕ} {amount from hops u left : ℕ} (G : Going labels before now amount from hops u left) where
  -- The next hop, where one is left.
  module _ (some_left : 0 < left) where
    abbrev less : ℕ
    less = left - 1

    abbrev next : ℕ
    next = (label_at labels u).next

    -- The bridges that are left, of which the first two are those of the hop.
    first_two : followed labels u (suc left) ≡ u ∷ next ∷ followed labels (label_at labels next).next less
    unfolding followed
    first_two = ap (λ (n : ℕ). followed labels u (suc n)) {x = left} {y = suc less} (omega arith)

    rest_is : followed labels next (suc less) ≡ next ∷ followed labels (label_at labels next).next less
    unfolding followed
    rest_is = refl

    here-inside : u < 64
    here-inside = G.rest.inside u (subst (In u) (sym first_two) (inl refl))

    next-inside : next < 64
    next-inside = G.rest.inside next (subst (In next) (sym first_two) (inr (inl refl)))

    every : EveryTwo (λ x y. x ≡ y → ⊥) (u ∷ next ∷ followed labels (label_at labels next).next less)
    every = subst (EveryTwo (λ x y. x ≡ y → ⊥)) first_two G.rest.once

    apart : u ≡ next → ⊥
    apart f = every.0 next (inl refl) f

    -- What the hop is given, and what the rest is.
    given-once : (q : Pair) → cond (takes q (followed labels u (suc left))) amount 0
        ≡ cond (is_hop_of q u next) amount 0 + cond (takes q (followed labels next (suc less))) amount 0
    given-once q =
        ap (λ (t : List ℕ). cond (takes q t) amount 0) first_two
        ∙ taken-once q u next (followed labels (label_at labels next).next less) amount (once-distinct (u ∷ next ∷ followed labels (label_at labels next).next less) every)
        ∙ ap (λ (t : List ℕ). cond (is_hop_of q u next) amount 0 + cond (takes q t) amount 0) (sym rest_is)

    pub hop-fits : Room before amount → (v : ℕ) → v ≡ next → (u < 64) × (v < 64) × (get_or now (hop_place u v) 0 + amount < 4294967296)
    hop-fits R v f = (here-inside, omega (arith, next-inside), rw f fits)
      where
        fits : get_or now (hop_place u next) 0 + amount < 4294967296
        fits =
            let (q, P, t, e) = pair_of_hop u next here-inside next-inside apart
            in let whole : cond (is_hop_of q u next) amount 0 ≡ amount = ap (λ (b : Bool). cond b amount 0) (is_true (is_hop_of q u next) t)
            in let at : get_or now (hop_place u next) 0 ≡ load_at now q = ap (λ (i : ℕ). get_or now i 0) e
            in omega (arith, at, whole, given-once q, G.each q P, R.fits q P, at_most (takes q (followed labels from (suc hops))) amount)

    pub going_on : (v : ℕ) → v ≡ next → 4096 ≤ length before → (after : List ℕ) → after ≡ hop_added now u v amount
        → Going labels before after amount from hops v less
    going_on v f room after e = rw (e, f) (record {
      same_length = length-set now (hop_place u next) (get_or now (hop_place u next) 0 + amount) ∙ G.same_length;
      within = omega (arith, G.within);
      rest = record {
        inside = λ x i. G.rest.inside x (subst (In x) (sym first_two) (inr (subst (In x) rest_is i)));
        once = subst (EveryTwo (λ x y. x ≡ y → ⊥)) (sym rest_is) every.1;
      };
      each = λ q P. omega (
        arith,
        G.each q P,
        given-once q,
        hop_added_lem now u next amount (omega (arith, G.same_length)) here-inside next-inside q P,
      );
    })

  pub going_ends : left ≡ 0 → PathAdded before (followed labels from (hops + 1)) amount now
  unfolding followed takes
  going_ends e = record { each = λ q P. ends q ∙ G.each q P ∙ ap (λ (n : ℕ). load_at before q + cond (takes q (followed labels from n)) amount 0) (sym (add-one hops)) }
    where
      ends : (q : Pair) → load_at now q ≡ load_at now q + cond (takes q (followed labels u (suc left))) amount 0
      ends q = rw e (omega arith)

-- A record by the labels of a tree: no path, or a path of `hops` hops.
module _ (labels : List ℕ) (u amount : ℕ) where
  pub no_path-lost : (label_at labels u).cost ≡ no_cost → (loads : List ℕ) → RecordAdded (labelled_option labels u) amount loads loads (record { total = 0; lost = amount })
  no_path-lost e loads = rw (eq-eqb (label_at labels u).cost no_cost e) (record {
    each = λ q P. omega arith;
    total = omega arith;
    few = omega arith;
    lost = refl;
  })

  module _ (d : (label_at labels u).cost ≡ no_cost → ⊥) (P : Passable labels u) {hops : ℕ} (read : hops ≡ (label_at labels u).hops) where
    pub hops-once : PassesOnce labels u (hops + 1)
    hops-once = rw read (record { inside = P.followable.inside d; once = P.once d })

    pub few-carried : amount ≤ 65535 → hops * amount ≤ 63 * 65535
    few-carried l = omega (arith, mul-le-mul_right amount few, l)
      where
        few : hops ≤ 63
        few = omega (arith, P.followable.few d)

    pub path_added : amount ≤ 65535 → {before after : List ℕ} → PathAdded before (followed labels u (hops + 1)) amount after
        → RecordAdded (labelled_option labels u) amount before after (record { total = hops * amount; lost = 0 })
    path_added l {before} {after} A = rw (ne_eqb (label_at labels u).cost no_cost d) (record {
      each = λ q P. A.each q P ∙ ap (λ (n : ℕ). load_at before q + cond (takes q (followed labels u (n + 1))) amount 0) read;
      total = ap (λ (n : ℕ). n * amount) (omega (arith, read, followed-length labels u ((label_at labels u).hops + 1)));
      few = few-carried l;
      lost = refl;
    })
