-- Laws of the numbers of hops: the number by a half-link, the lowest with one half-link more, and the link that the lowest stands for.
-- Assumes nothing.
use Rattle.std.specs.Prelude.{ℕ, ◌≤◌, ◌<◌, min, ◌≡◌, refl, List, [], ◌∷◌, ◌⊎◌, Bool, true, false, cond, T}
use Rattle.std.proofs.Common.{arith, sym, ap, ◌∙◌, subst, inl, inr, ltb→lt, lt→ltb}
use Rattle.std.proofs.Math.Option.{Option, none, some}
use Rattle.lists.specs.Lists.{selected}
use Rattle.lists.specs.Members.{In}
use Rattle.lists.proofs.laws.NumberLaws.{le_or_gt, compared, is_true, true-test, equal-three, three-equal}
use Rattle.lists.proofs.laws.SelectedLaws.{selected-in}
use Rattle.rule.specs.Words.{words_of}
use Rattle.rule.specs.Records.{HalfLink, half_link_of, unusable_metric}
use Rattle.rule.specs.Plan.{Plan}
use Rattle.rule.specs.Links.{Link, mates, number, from, to, link_cost, usable_metric, neither_down, hop_link}
use Rattle.rule.specs.PlanLaws.{PlanLaws}
use Rattle.rule.proofs.laws.LinkLaws.{Usable, usable-parts, Takes, hop-takes, no_hop_lem, one_link}
use Rattle.table.specs.declared.shape.Shape.{Shape}
use Rattle.table.specs.Positions.{half_links_from, plan_at}
use Rattle.table.proofs.laws.PositionLaws.{record-in, in-records}
use Rattle.table.specs.Numbered.{half_link_number}
use Rattle.verdict.specs.Examination.{Checked}
use Rattle.verdict.proofs.laws.CheckedLaws.{bridges-counted, few-bridges}
use Rattle.links.specs.Mates.{metric_of, metric_with, link_metric}
use Rattle.links.proofs.laws.MateLaws.{metric-usable, one-mate, mates-at-most-one}
use Rattle.links.specs.Hops.{no_hop, hop_number, cost_of_hop, port_of_hop, hop_of, LowestHop}

-- The number of the hop by the link of a half-link, were that link usable.
abbrev hop_by : List HalfLink → HalfLink → ℕ
hop_by hs h = hop_number (link_metric hs h) h.link h.port

-- The hop by the half-link `h`, whose link costs `m`; `k` was read for it.
module _ (hs : List HalfLink) (h : HalfLink) (m : ℕ) (f : m ≡ link_metric hs h) where
  pub hop_unusable : false ≡ usable_metric m → no_hop ≡ hop_of hs h
  hop_unusable u = ap (λ (b : Bool). cond b (hop_by hs h) no_hop) (u ∙ ap usable_metric f)

  pub hop-usable : true ≡ usable_metric m → (k : HalfLink) → k ≡ h → (x : ℕ) → x ≡ hop_number m k.link k.port → x ≡ hop_of hs h
  hop-usable u k q x e =
      e
      ∙ ap (λ (j : HalfLink). hop_number m j.link j.port) q
      ∙ ap (λ (c : ℕ). hop_number c h.link h.port) f
      ∙ ap (λ (b : Bool). cond b (hop_by hs h) no_hop) (u ∙ ap usable_metric f)

-- A half-link has a hop where its link is usable, and nowhere else.
hop-or-none : (hs : List HalfLink) (h : HalfLink) → ((link_metric hs h < unusable_metric) × (hop_of hs h ≡ hop_by hs h)) ⊎ ((link_metric hs h < unusable_metric → ⊥) × (hop_of hs h ≡ no_hop))
hop-or-none hs h = go (usable_metric (link_metric hs h)) refl
  where
    go : (b : Bool) → usable_metric (link_metric hs h) ≡ b
        → ((link_metric hs h < unusable_metric) × (cond b (hop_by hs h) no_hop ≡ hop_by hs h)) ⊎ ((link_metric hs h < unusable_metric → ⊥) × (cond b (hop_by hs h) no_hop ≡ no_hop))
    go true e = inl (ltb→lt (link_metric hs h) unusable_metric (true-test (usable_metric (link_metric hs h)) e), refl)
    go false e = inr (λ u. subst T e (lt→ltb (link_metric hs h) unusable_metric u), refl)

-- Where nothing was offered, there is no hop.
pub nothing-offered : {hs : List HalfLink} {Offered : HalfLink → Type 0} {v : ℕ} → ((h : HalfLink) → Offered h → ⊥) → LowestHop hs Offered v no_hop
nothing-offered d = record { none_lower = λ h o e u. absurd (d h o); one_has = inl refl }

-- The same half-links offered, said otherwise.
pub lowest_of_same :
    {hs : List HalfLink} {Offered Same : HalfLink → Type 0} {v x : ℕ} →
    LowestHop hs Offered v x →
    ((h : HalfLink) → Offered h → Same h) →
    ((h : HalfLink) → Same h → Offered h) →
    LowestHop hs Same v x
lowest_of_same {hs} {Offered} {Same} {v} {x} B there here =
    record { none_lower = λ h o e u. B.none_lower h (here h o) e u; one_has = has B.one_has }
  where
    has : (x ≡ no_hop) ⊎ ((h : HalfLink) × Offered h × (h.far ≡ v) × (x ≡ hop_of hs h))
        → (x ≡ no_hop) ⊎ ((h : HalfLink) × Same h × (h.far ≡ v) × (x ≡ hop_of hs h))
    has (inl e) = inl e
    has (inr (h, o, e, f)) = inr (h, there h o, e, f)

-- One half-link more is offered.
module _ {hs : List HalfLink} {Offered More : HalfLink → Type 0} {v x : ℕ} (B : LowestHop hs Offered v x) (h : HalfLink)
    (still : (g : HalfLink) → Offered g → More g) (also : More h) (only : (g : HalfLink) → More g → Offered g ⊎ (g ≡ h)) where
  -- What was there is the lowest where the half-link offered has no lower hop.
  stays : (h.far ≡ v → hop_of hs h < no_hop → x ≤ hop_of hs h) → LowestHop hs More v x
  stays l = record { none_lower = λ g m e u. none g (only g m) e u; one_has = has B.one_has }
    where
      none : (g : HalfLink) → Offered g ⊎ (g ≡ h) → g.far ≡ v → hop_of hs g < no_hop → x ≤ hop_of hs g
      none g (inl o) e u = B.none_lower g o e u
      none g (inr f) e u =
          subst (λ (k : HalfLink). x ≤ hop_of hs k) (sym f)
          (l (ap (λ (k : HalfLink). k.far) (sym f) ∙ e) (subst (λ (k : HalfLink). hop_of hs k < no_hop) f u))

      has : (x ≡ no_hop) ⊎ ((g : HalfLink) × Offered g × (g.far ≡ v) × (x ≡ hop_of hs g))
          → (x ≡ no_hop) ⊎ ((g : HalfLink) × More g × (g.far ≡ v) × (x ≡ hop_of hs g))
      has (inl e) = inl e
      has (inr (g, o, e, f)) = inr (g, still g o, e, f)

  pub hop-passed : no_hop ≤ hop_of hs h → LowestHop hs More v x
  hop-passed l = stays λ e u. absurd (omega arith)

  pub hop-elsewhere : (h.far ≡ v → ⊥) → LowestHop hs More v x
  hop-elsewhere d = stays λ e u. absurd (d e)

  pub hop-lowered : h.far ≡ v → LowestHop hs More v (min x (hop_of hs h))
  hop-lowered e = go (le_or_gt x (hop_of hs h))
    where
      none : hop_of hs h < x → (g : HalfLink) → Offered g ⊎ (g ≡ h) → g.far ≡ v → hop_of hs g < no_hop → hop_of hs h ≤ hop_of hs g
      none l g (inl o) f u = omega (arith, B.none_lower g o f u)
      none l g (inr f) d u = subst (λ (k : HalfLink). hop_of hs h ≤ hop_of hs k) (sym f) (omega arith)

      go : (x ≤ hop_of hs h) ⊎ (hop_of hs h < x) → LowestHop hs More v (min x (hop_of hs h))
      go (inl l) = subst (LowestHop hs More v) (omega arith) (stays (λ f u. l))
      go (inr l) = subst (LowestHop hs More v) (omega arith)
          (record { none_lower = λ g m f u. none l g (only g m) f u; one_has = inr (h, also, e, refl) })

-- The half-links of a table that passed the check.
module _ {t : List ℕ} {s : Shape} (C : Checked t s) where
  abbrev plan : Plan
  plan = plan_at (words_of t) s

  pub narrow : (h : HalfLink) → In h plan.half_links → h.link < 65536
  narrow h i =
      let (j, l, e) = in-records half_link_of 3 (half_links_from s) (words_of t) s.half_links h i
      in subst (λ (x : HalfLink). x.link < 65536) (sym e) (omega arith)

  pub listed-there : (j : ℕ) → j < s.half_links → (h : HalfLink) → h ≡ half_link_number (words_of t) s j → In h plan.half_links
  listed-there j l h e =
      subst (λ (x : HalfLink). In x plan.half_links) (sym e) (record-in half_link_of 3 (half_links_from s) (words_of t) s.half_links j l)

  -- The half-link `j`, where `h` was read: its far bridge, and the parts of its hop's number.
  module _ (j : ℕ) (l : j < s.half_links) (h : HalfLink) (e : h ≡ half_link_number (words_of t) s j) where
    pub far-inside : h.far < 64
    far-inside = omega (arith, bridges-counted C, few-bridges C, (C.laws.half_links.fits h (listed-there j l h e)).far_known)

    pub hop-fits : (m : ℕ) → true ≡ usable_metric m → (m < 16777216) × (h.link < 65536) × (h.port < 65536)
    hop-fits m u = (
      omega (arith, ltb→lt m unusable_metric (true-test (usable_metric m) (sym u))),
      narrow h (listed-there j l h e),
      omega (arith, (C.laws.half_links.fits h (listed-there j l h e)).greatest_port),
    )

-- A link with a usable metric has no half that is down, and costs less than the unusable metric.
usable_of_metric : (l : Link) → metric_of l < unusable_metric → T (neither_down l) × (link_cost l < unusable_metric)
usable_of_metric l u = usable-parts l (subst T (metric-usable l) (lt→ltb (metric_of l) unusable_metric u))

-- What the metric of a half-link says of its link.
module _ (p : Plan) (L : PlanLaws p) where
  metric_of_link : (l : Link) → Usable p.half_links l → link_metric p.half_links l.here ≡ link_cost l
  metric_of_link l U =
      ap (metric_with l.here) (one-mate p L l.here l.there U.there_listed
      (equal-three l.here.link l.there.link l.here.near l.there.far l.here.far l.there.near
      U.one_number U.near_far U.far_near))
      ∙ ap (λ (b : Bool). cond b (link_cost l) unusable_metric) (is_true (neither_down l) U.neither_down_lem)

  link_of_metric :
      (h : HalfLink) →
      In h p.half_links →
      link_metric p.half_links h < unusable_metric →
      (l : Link) × Usable p.half_links l × (l.here ≡ h)
  link_of_metric h i u = go (mates-at-most-one p L h)
    where
      go :
          (selected (mates h) p.half_links ≡ []) ⊎ ((m : HalfLink) × (selected (mates h) p.half_links ≡ m ∷ [])) →
          (l : Link) × Usable p.half_links l × (l.here ≡ h)
      go (inl e) = absurd (omega (arith, ap (metric_with h) e))
      go (inr (m, e)) =
          let r = selected-in (mates h) m p.half_links (subst (λ (t : List HalfLink). In m t) (sym e) (inl refl))
          in let s = three-equal h.link m.link h.near m.far h.far m.near r.1
          in let t = usable_of_metric (record { here = h; there = m }) (omega (arith, ap (metric_with h) e))
          in (
            record { here = h; there = m },
            record {
              here_listed = i;
              there_listed = r.0;
              one_number = s.0;
              near_far = s.1;
              far_near = s.2;
              neither_down_lem = t.0;
              usable = t.1;
            },
            refl,
          )

  -- When all half-links of the bridge `u` were offered, the number is that of the link that the hop to `v` takes.
  module _ (narrow : (h : HalfLink) → In h p.half_links → h.link < 65536) (u v : ℕ) {x : ℕ}
      (B : LowestHop p.half_links (λ h. In h p.half_links × (h.near ≡ u)) v x) where
    abbrev link_number : Link → ℕ
    link_number l = hop_number (link_cost l) (number l) l.here.port

    -- The hop by the half-link from which a usable link is seen.
    number_of_link : (l : Link) → Usable p.half_links l → hop_of p.half_links l.here ≡ link_number l
    number_of_link l U = go (hop-or-none p.half_links l.here)
      where
        go : ((link_metric p.half_links l.here < unusable_metric) × (hop_of p.half_links l.here ≡ hop_by p.half_links l.here))
            ⊎ ((link_metric p.half_links l.here < unusable_metric → ⊥) × (hop_of p.half_links l.here ≡ no_hop))
            → hop_of p.half_links l.here ≡ link_number l
        go (inl (w, e)) = e ∙ ap (λ (c : ℕ). hop_number c (number l) l.here.port) (metric_of_link l U)
        go (inr (d, e)) = absurd (d (omega (arith, metric_of_link l U, U.usable)))

    -- Its parts fit.
    number_fits : (l : Link) → Usable p.half_links l → (link_cost l < unusable_metric) × (number l < 65536) × (l.here.port ≤ 4095)
    number_fits l U = (U.usable, narrow l.here U.here_listed, (L.half_links.fits l.here U.here_listed).greatest_port)

    -- No usable link from `u` to `v` has a lower number.
    not_above : (l : Link) → Usable p.half_links l → from l ≡ u → to l ≡ v → x ≤ link_number l
    not_above l U e f =
        omega (
          arith,
          number_of_link l U,
          B.none_lower l.here (U.here_listed, e) f (omega (arith, number_of_link l U, number_fits l U)),
        )

    pub hop_none : no_hop ≤ x → hop_link p.half_links u v ≡ none
    hop_none e = go (hop_link p.half_links u v) refl
      where
        go : (o : Option Link) → hop_link p.half_links u v ≡ o → o ≡ none
        go none f = refl
        go (some l) f =
            let K = hop-takes p.half_links u v l f
            in absurd (omega (arith, not_above l K.link K.near K.far, number_fits l K.link))

    -- The link of the half-link whose number is there.
    module _ (l : Link) (U : Usable p.half_links l) (near : from l ≡ u) (far : to l ≡ v) (f : x ≡ link_number l) where
      hop_taken : (k : Link) → Takes p.half_links u v k → k ≡ l
      hop_taken k K =
          one_link p L k l K.link U
          (same (number_fits l U) (number_fits k K.link) (compared (link_cost k) (link_cost l)) (compared (number k) (number l))
          (K.lowest l U near far) (omega (arith, f, not_above k K.link K.near K.far))) (K.near ∙ sym near)
        where
          same :
              (link_cost l < unusable_metric) × (number l < 65536) × (l.here.port ≤ 4095) →
              (link_cost k < unusable_metric) × (number k < 65536) × (k.here.port ≤ 4095) →
              (link_cost k < link_cost l) ⊎ (link_cost k ≡ link_cost l) ⊎ (link_cost l < link_cost k) →
              (number k < number l) ⊎ (number k ≡ number l) ⊎ (number l < number k) →
              ((link_cost l < link_cost k) ⊎ ((link_cost l ≡ link_cost k) × ((number l < number k) ⊎ ((number l ≡ number k) × ⊥))) → ⊥) →
              link_number l ≤ link_number k →
              number k ≡ number l
          same a b (inl e) d lowest m = absurd (omega arith)
          same a b (inr (inr e)) d lowest m = absurd (lowest (inl e))
          same a b (inr (inl e)) (inl d) lowest m = absurd (omega arith)
          same a b (inr (inl e)) (inr (inl d)) lowest m = d
          same a b (inr (inl e)) (inr (inr d)) lowest m = absurd (lowest (inr (sym e, inl d)))

      hop_here : (k : Link) × (hop_link p.half_links u v ≡ some k) × (x ≡ link_number k)
      hop_here = go (hop_link p.half_links u v) refl
        where
          go : (o : Option Link) → hop_link p.half_links u v ≡ o → (k : Link) × (hop_link p.half_links u v ≡ some k) × (x ≡ link_number k)
          go none q = absurd (no_hop_lem p.half_links u v q l U near far)
          go (some k) q = (k, q, f ∙ ap link_number (sym (hop_taken k (hop-takes p.half_links u v k q))))

    -- A hop that is there is by the link that the hop takes.
    taken_link : x < no_hop → (l : Link) × (hop_link p.half_links u v ≡ some l) × (x ≡ link_number l)
    taken_link d = go B.one_has
      where
        by_half_link : (h : HalfLink) → In h p.half_links → h.near ≡ u → h.far ≡ v → x ≡ hop_of p.half_links h
            → ((link_metric p.half_links h < unusable_metric) × (hop_of p.half_links h ≡ hop_by p.half_links h))
            ⊎ ((link_metric p.half_links h < unusable_metric → ⊥) × (hop_of p.half_links h ≡ no_hop))
            → (l : Link) × (hop_link p.half_links u v ≡ some l) × (x ≡ link_number l)
        by_half_link h i n e f (inr (w, g)) = absurd (omega arith)
        by_half_link h i n e f (inl (w, g)) =
            let (l, U, q) = link_of_metric h i w
            in hop_here l U (ap (λ (k : HalfLink). k.near) q ∙ n) (ap (λ (k : HalfLink). k.far) q ∙ e)
            (f ∙ ap (hop_of p.half_links) (sym q) ∙ number_of_link l U)

        go : (x ≡ no_hop) ⊎ ((h : HalfLink) × (In h p.half_links × (h.near ≡ u)) × (h.far ≡ v) × (x ≡ hop_of p.half_links h))
            → (l : Link) × (hop_link p.half_links u v ≡ some l) × (x ≡ link_number l)
        go (inl e) = absurd (omega arith)
        go (inr (h, (i, n), e, f)) = by_half_link h i n e f (hop-or-none p.half_links h)

    pub hop_some : x < no_hop → (x < 4503599627370496) × ((l : Link) × (hop_link p.half_links u v ≡ some l) × (cost_of_hop x ≡ link_cost l) × (port_of_hop x ≡ l.here.port))
    hop_some d =
        let (l, e, f) = taken_link d
        in let fits = number_fits l (hop-takes p.half_links u v l e).link
        in (omega (arith, f, fits), (l, e, omega (arith, f, fits), omega (arith, f, fits)))
