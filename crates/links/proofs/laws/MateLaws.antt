-- The mates of a half-link of an accepted plan: at most one, and the one that the index of link numbers has; and the metric of its link.
-- Assumes nothing.
use Rattle.std.specs.Prelude.{ℕ, suc, ◌+◌, ◌-◌, ◌≤◌, ◌<◌, ◌≡◌, refl, List, [], ◌∷◌, ◌⊎◌, Bool, true, false, not, ◌&&◌, cond, T}
use Rattle.std.proofs.Common.{arith, add-one, sym, ap, ◌∙◌, subst, inl, inr}
use Rattle.lists.specs.Lists.{selected}
use Rattle.lists.specs.Members.{In}
use Rattle.lists.proofs.laws.NumberLaws.{compared, equal-three, three-equal}
use Rattle.lists.proofs.laws.SelectedLaws.{selected-in, in-selected}
use Rattle.lists.proofs.laws.DistinctLaws.{selected-none, only_one, distinct-selected}
use Rattle.rule.specs.Words.{words_of}
use Rattle.rule.specs.Records.{HalfLink, half_link_of, unusable_metric}
use Rattle.rule.specs.Plan.{Plan}
use Rattle.rule.specs.Links.{Link, mates, link_cost, usable_metric, neither_down, is_usable}
use Rattle.rule.specs.PlanLaws.{Mirrors, PlanLaws}
use Rattle.rule.proofs.laws.OneRecord.{distinct_half_links}
use Rattle.rule.proofs.laws.LinkLaws.{one_half}
use Rattle.key_index.proofs.laws.OtherLaws.{other-within, other-holds, no_other_holds}
use Rattle.key_index.specs.Index.{other_place}
use Rattle.table.specs.declared.shape.Shape.{Shape}
use Rattle.table.specs.Positions.{half_links_from, plan_at}
use Rattle.table.proofs.laws.PositionLaws.{record-in, in-records, every-two-records}
use Rattle.table.specs.Numbered.{half_link_number}
use Rattle.verdict.specs.Examination.{Checked, LinkIndex}
use Rattle.links.specs.Mates.{metric_of, metric_with, link_metric}

-- The unusable metric stands for a link with a half that is down: a link is usable where its metric is.
pub metric-usable : (l : Link) → usable_metric (metric_of l) ≡ is_usable l
metric-usable l = go (neither_down l) (link_cost l)
  where
    go : (b : Bool) (c : ℕ) → usable_metric (cond b c unusable_metric) ≡ (b && usable_metric c)
    go true c = refl
    go false c = refl

-- What the link of a half-link that is down costs, whatever its mates.
pub metric-down : (h : HalfLink) (ms : List HalfLink) → h.down ≡ true → unusable_metric ≡ metric_with h ms
metric-down h [] e = refl
metric-down h (m ∷ ms) e = λ i. cond (not (sym e i) && not m.down) (link_cost (record { here = h; there = m })) unusable_metric

-- What the link of two half-links costs, of which the first is not down.
pub metric_by : (h m : HalfLink) (b : Bool) → h.down ≡ false → m.down ≡ b
    → cond b unusable_metric (link_cost (record { here = h; there = m })) ≡ metric_of (record { here = h; there = m })
metric_by h m b e f = go b ∙ (λ i. cond (not (sym e i) && not (sym f i)) (link_cost (record { here = h; there = m })) unusable_metric)
  where
    go : (b : Bool) → cond b unusable_metric (link_cost (record { here = h; there = m }))
        ≡ cond (not b) (link_cost (record { here = h; there = m })) unusable_metric
    go true = refl
    go false = refl

-- "A link is two half-links": a half-link has one mate, where it has any.
pub one-mate :
    (p : Plan) →
    PlanLaws p →
    (h m : HalfLink) →
    In m p.half_links →
    T (mates h m) →
    selected (mates h) p.half_links ≡ m ∷ []
one-mate p L h m i t =
    only_one (selected (mates h) p.half_links) m (distinct-selected (mates h) p.half_links (distinct_half_links p L))
    (in-selected (mates h) m p.half_links i t)
    λ k j. same k (selected-in (mates h) k p.half_links j)
  where
    says : (k : HalfLink) → T (mates h k) → (h.link ≡ k.link) × (h.near ≡ k.far) × (h.far ≡ k.near)
    says k = three-equal h.link k.link h.near k.far h.far k.near

    same : (k : HalfLink) → In k p.half_links × T (mates h k) → k ≡ m
    same k (j, u) =
        one_half p L k m j i (sym (says k u).0 ∙ (says m t).0) (sym (says k u).2 ∙ (says m t).2)

pub mates-at-most-one :
    (p : Plan) →
    PlanLaws p →
    (h : HalfLink) →
    (selected (mates h) p.half_links ≡ []) ⊎ ((m : HalfLink) × (selected (mates h) p.half_links ≡ m ∷ []))
mates-at-most-one p L h = go (selected (mates h) p.half_links) refl
  where
    go :
        (ms : List HalfLink) →
        selected (mates h) p.half_links ≡ ms →
        (selected (mates h) p.half_links ≡ []) ⊎ ((m : HalfLink) × (selected (mates h) p.half_links ≡ m ∷ []))
    go [] e = inl e
    go (m ∷ ms) e =
        let r = selected-in (mates h) m p.half_links (subst (λ (t : List HalfLink). In m t) (sym e) (inl refl))
        in inr (m, one-mate p L h m r.0 r.1)

-- By the index: the other place of the link number.
module _ {t links : List ℕ} {s : Shape} (C : Checked t s) (K : LinkIndex links t s) where
  abbrev ws : List ℕ
  ws = words_of t

  abbrev n : ℕ
  n = s.half_links

  abbrev at : ℕ → HalfLink
  at = half_link_number ws s

  abbrev hs : List HalfLink
  hs = (plan_at ws s).half_links

  listed : (i : ℕ) → i < n → In (at i) hs
  listed = record-in half_link_of 3 (half_links_from s) ws n

  -- Two half-links of one number at different places are mates.
  mated_at : (i j : ℕ) → i < n → j < n → (j ≡ i → ⊥) → (at j).link ≡ (at i).link → T (mates (at i) (at j))
  mated_at i j h l d e = go (compared i j)
    where
      earlier : (i j : ℕ) → i < j → j < n → Mirrors (at i) (at j)
      earlier = every-two-records half_link_of 3 (half_links_from s) ws Mirrors n C.laws.half_links.mirrored

      go : (i < j) ⊎ (i ≡ j) ⊎ (j < i) → T (mates (at i) (at j))
      go (inl b) =
          let M = earlier i j b l (sym e)
          in equal-three (at i).link (at j).link (at i).near (at j).far (at i).far (at j).near (sym e) (sym M.1) (sym M.0)
      go (inr (inl b)) = absurd (d (sym b))
      go (inr (inr b)) =
          let M = earlier j i b h e
          in equal-three (at i).link (at j).link (at i).near (at j).far (at i).far (at j).near (sym e) M.0 M.1

  module _ (i : ℕ) (h : i < n) where
    pub has-mate : (j : ℕ) → other_place links n (suc i) ≡ suc j → selected (mates (at i)) hs ≡ at j ∷ []
    has-mate j e =
        let (l, d, f) = other-holds links n i h j e
        in one-mate (plan_at ws s) C.laws (at i) (at j) (listed j l) (mated_at i j h l d (sym (K.keys j l) ∙ f ∙ K.keys i h))

    pub has_no_mate : other_place links n (suc i) ≡ 0 → selected (mates (at i)) hs ≡ []
    has_no_mate e =
        selected-none (mates (at i)) hs λ m k u. none (in-records half_link_of 3 (half_links_from s) ws n m k) u
      where
        none : {m : HalfLink} → ((k : ℕ) × (k < n) × (m ≡ at k)) → T (mates (at i) m) → ⊥
        none {m} (k, l, f) u =
            let r = three-equal (at i).link m.link (at i).near m.far (at i).far m.near u
            in let d : (k ≡ i → ⊥) = λ z. (C.laws.half_links.fits (at i) (listed i h)).apart
            (r.1 ∙ ap (λ (x : HalfLink). x.far) f ∙ ap (λ (x : ℕ). (at x).far) z)
            in no_other_holds links n i h e k l d (K.keys k l ∙ sym (r.0 ∙ ap (λ (x : HalfLink). x.link) f) ∙ sym (K.keys i h))

  -- What the link of the half-link `i` costs: `place` is what the index has.
  module _ (i : ℕ) (l : i < n) (place : ℕ) (f : place ≡ other_place links n (i + 1)) where
    other_place_lem : place ≡ other_place links n (suc i)
    other_place_lem = f ∙ ap (other_place links n) (add-one i)

    pub mate-within : place ≤ n
    mate-within = omega (arith, other_place_lem, other-within links n i l)

    pub metric-alone : place ≡ 0 → 16777215 ≡ link_metric hs (at i)
    metric-alone z = sym (ap (metric_with (at i)) (has_no_mate i l (sym other_place_lem ∙ z)))

    pub metric-linked : (place ≡ 0 → ⊥) → (m : HalfLink) → m ≡ at (place - 1) → metric_of (record { here = at i; there = m }) ≡ link_metric hs (at i)
    metric-linked d m k =
        ap (λ (x : HalfLink). metric_with (at i) (x ∷ [])) k
        ∙ sym (ap (metric_with (at i)) (has-mate i l (place - 1) (sym other_place_lem ∙ omega arith)))
