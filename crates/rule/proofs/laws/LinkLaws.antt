-- The links of an accepted plan (01, "Links"): a link is determined by its number and the bridge it is seen from, and by its near
-- bridge and port; a hop takes the same link in both directions; the graph of the plan meets GraphLaws.
-- Assumes nothing.
use Rattle.std.specs.Prelude.{ℕ, ◌<◌, ◌≡◌, ◌⊎◌, not, ◌&&◌, length}
use Rattle.std.proofs.Common.{arith, sym, ◌∙◌, inl, inr, ltb→lt, lt→ltb}
use Rattle.std.proofs.Math.Path.{refl, ap, subst}
use mathlib.Core.List.{List, [], ◌∷◌, map}
use Rattle.std.proofs.Math.Option
use Rattle.std.proofs.Math.Option.{Option, none, some}
use Rattle.std.proofs.Math.Bool.{Bool, and-false, or-false}
use Rattle.std.proofs.Math.Dec.{T, eqb}
use Rattle.lists.specs.Lists.{selected}
use Rattle.graph.specs.Order.{Lower, is_lower}
use Rattle.graph.specs.Graph.{GraphLaws, Joined}
use Rattle.lists.specs.Members.{In}
use Rattle.lists.proofs.laws.ListNotions.{Distinct}
use Rattle.lists.proofs.laws.NumberLaws.{compared, both, first_of, last_of, equal-two, two-equal, equal-three, three-equal}
use Rattle.lists.proofs.laws.MemberLaws.{in_map, map-in, in-flat_map, flat_map-in}
use Rattle.lists.proofs.laws.SelectedLaws.{selected-in, in-selected, any-in, in-any}
use Rattle.lists.proofs.laws.DistinctLaws.{distinct-flat_map, distinct-selected, every-two-one, only_one}
use Rattle.lists.proofs.laws.LowestLaws.{lowest-none}
use Rattle.lists.proofs.laws.GivenLaws.{distinct-map}
use Rattle.graph.proofs.laws.OrderLaws.{lowest-ranked}
use Rattle.rule.specs.Records.{HalfLink, unusable_metric}
use Rattle.rule.specs.Plan.{Plan}
use Rattle.rule.specs.Links.{Link, mates, links_of, number, from, to, turned, link_cost, usable_metric, neither_down, is_usable, usable_links, connects, links_between, joined, before, hop_link, cost_of, graph_of}
use Rattle.rule.specs.Frames.{only, crossed}
use Rattle.rule.specs.PlanLaws.{Mirrors, PlanLaws}
use Rattle.rule.proofs.laws.OneRecord.{distinct_half_links, one_port}

-- "A link is two half-links with one link number, near and far bridge exchanged", usable.
pub record Usable (hs : List HalfLink) (l : Link) : Type 0 where
  pub here_listed : In l.here hs
  pub there_listed : In l.there hs
  pub one_number : l.here.link ≡ l.there.link
  pub near_far : l.here.near ≡ l.there.far
  pub far_near : l.here.far ≡ l.there.near
  pub neither_down_lem : T (neither_down l)
  pub usable : link_cost l < unusable_metric

-- What the test says of a link.
pub usable-parts : (l : Link) → T (is_usable l) → T (neither_down l) × (link_cost l < unusable_metric)
usable-parts l t = (
  first_of (neither_down l) (usable_metric (link_cost l)) t,
  ltb→lt (link_cost l) unusable_metric (last_of (neither_down l) (usable_metric (link_cost l)) t),
)

module _ (hs : List HalfLink) where
  -- The links that a half-link has with its mates, seen from it.
  abbrev pub seen_from : HalfLink → List Link
  seen_from h = map (λ m. record { here = h; there = m }) (selected (mates h) hs)

  pub usable-says : (l : Link) → In l (usable_links hs) → Usable hs l
  unfolding usable_links links_of
  usable-says l k = let r = selected-in is_usable l (links_of hs) k in go (flat_map-in seen_from l hs r.0) r.1
    where
      mate : (h : HalfLink) → In h hs → T (is_usable l)
          → ((m : HalfLink) × In m (selected (mates h) hs) × (l ≡ record { here = h; there = m })) → Usable hs l
      mate h i u (m, j, e) = let r = selected-in (mates h) m hs j in
          let s = three-equal h.link m.link h.near m.far h.far m.near r.1 in
          let t = usable-parts (record { here = h; there = m }) (subst (λ (z : Link). T (is_usable z)) e u) in
          subst (λ (z : Link). Usable hs z) (sym e)
          (record {
            here_listed = i;
            there_listed = r.0;
            one_number = s.0;
            near_far = s.1;
            far_near = s.2;
            neither_down_lem = t.0;
            usable = t.1;
          })

      go : ((h : HalfLink) × In h hs × In l (seen_from h)) → T (is_usable l) → Usable hs l
      go (h, i, j) u = mate h i u (map-in (λ m. record { here = h; there = m }) l (selected (mates h) hs) j)

  pub usable_is_link : (l : Link) → Usable hs l → In l (links_of hs)
  unfolding links_of
  usable_is_link l U =
      in-flat_map seen_from l l.here hs U.here_listed
      (in_map (λ m. record { here = l.here; there = m }) l.there (selected (mates l.here) hs)
      (in-selected (mates l.here) l.there hs U.there_listed
      (equal-three l.here.link l.there.link l.here.near l.there.far l.here.far l.there.near
      U.one_number U.near_far U.far_near)))

  pub says-usable : (l : Link) → Usable hs l → In l (usable_links hs)
  unfolding usable_links
  says-usable l U = in-selected is_usable l (links_of hs) (usable_is_link l U)
      (both (neither_down l) (usable_metric (link_cost l)) U.neither_down_lem (lt→ltb (link_cost l) unusable_metric U.usable))

  pub usable-turned : (l : Link) → Usable hs l → Usable hs (turned l)
  usable-turned l U = record {
    here_listed = U.there_listed;
    there_listed = U.here_listed;
    one_number = sym U.one_number;
    near_far = sym U.far_near;
    far_near = sym U.near_far;
    neither_down_lem =
        let here = not l.here.down in
        let there = not l.there.down in
        both there here (last_of here there U.neither_down_lem) (first_of here there U.neither_down_lem);
    usable = let u = U.usable in omega arith;
  }

  distinct-usable : Distinct hs → Distinct (usable_links hs)
  unfolding usable_links links_of
  distinct-usable d = distinct-selected is_usable (links_of hs) (distinct-flat_map seen_from hs d
      (λ h k. distinct-map (λ m. record { here = h; there = m }) (selected (mates h) hs) (distinct-selected (mates h) hs d)
      (λ m n i j e. ap (λ (l : Link). l.there) e))
      (λ h k l i j m n. let r = map-in (λ z. record { here = h; there = z }) l (selected (mates h) hs) m in
      let s = map-in (λ z. record { here = k; there = z }) l (selected (mates k) hs) n in
      ap (λ (z : Link). z.here) (sym r.2 ∙ s.2)))

  between-says : (u v : ℕ) (l : Link) → In l (links_between hs u v) → Usable hs l × (from l ≡ u) × (to l ≡ v)
  unfolding links_between
  between-says u v l k = let r = selected-in (connects u v) l (usable_links hs) k in let c = two-equal (from l) u (to l) v r.1 in
      (usable-says l r.0, c.0, c.1)

  says-between : (u v : ℕ) (l : Link) → Usable hs l → from l ≡ u → to l ≡ v → In l (links_between hs u v)
  unfolding links_between
  says-between u v l U e f = in-selected (connects u v) l (usable_links hs) (says-usable l U) (equal-two (from l) u (to l) v e f)

-- "the cheapest usable link, of equals the lower link number": links compare by cost, then number.
abbrev link_rank : Link → List ℕ
link_rank l = link_cost l ∷ number l ∷ []

by_cost_then_number : (l k : Link) → before l k ≡ is_lower (link_rank l) (link_rank k)
unfolding is_lower
by_cost_then_number l k = simp (and-false, or-false)

-- What the hop from `u` to `v` takes: a usable link between them, than which none is cheaper, nor as cheap with a lower number.
pub record Takes (hs : List HalfLink) (u v : ℕ) (l : Link) : Type 0 where
  pub link : Usable hs l
  pub near : from l ≡ u
  pub far : to l ≡ v
  pub lowest : (k : Link) → Usable hs k → from k ≡ u → to k ≡ v → Lower (link_rank k) (link_rank l) → ⊥

module _ (hs : List HalfLink) where
  pub hop-takes : (u v : ℕ) (l : Link) → hop_link hs u v ≡ some l → Takes hs u v l
  unfolding hop_link
  hop-takes u v l e = let r = lowest-ranked link_rank before by_cost_then_number (links_between hs u v) l e in
      let s = between-says hs u v l r.0 in
      record { link = s.0; near = s.1; far = s.2; lowest = λ k U i j. r.1 k (says-between hs u v k U i j) }

  pub no_hop_lem : (u v : ℕ) → hop_link hs u v ≡ none → (l : Link) → Usable hs l → from l ≡ u → to l ≡ v → ⊥
  unfolding hop_link
  no_hop_lem u v e l U i j = subst (λ (z : List Link). In l z) (lowest-none before (links_between hs u v) e) (says-between hs u v l U i j)

module _ (p : Plan) (L : PlanLaws p) where
  -- A half-link is determined by its link number and its near bridge: the other of that number has the near bridge for its far one.
  pub one_half : (h k : HalfLink) → In h p.half_links → In k p.half_links → h.link ≡ k.link → h.near ≡ k.near → h ≡ k
  one_half h k i j e f = every-two-one Mirrors p.half_links L.half_links.mirrored h k i j
      (λ M. (L.half_links.fits h i).apart (f ∙ (M e).0)) (λ M. (L.half_links.fits k j).apart (sym f ∙ (M (sym e)).0))

  -- A link is determined by its number and the bridge from which it is seen.
  pub one_link : (l k : Link) → Usable p.half_links l → Usable p.half_links k → number l ≡ number k → from l ≡ from k → l ≡ k
  one_link l k U W e f = λ i. record { here = here i; there = there i }
    where
      here : l.here ≡ k.here
      here = one_half l.here k.here U.here_listed W.here_listed e f

      there : l.there ≡ k.there
      there = one_half l.there k.there U.there_listed W.there_listed (sym U.one_number ∙ e ∙ W.one_number)
          (sym U.far_near ∙ ap (λ (h : HalfLink). h.far) here ∙ W.far_near)

  -- "the usable link whose half-link has that near bridge and port": there is one such link.
  pub port_crosses : (l : Link) → Usable p.half_links l → crossed p.half_links (from l) l.here.port ≡ some l
  unfolding crossed
  port_crosses l U = ap only (only_one (selected test (usable_links p.half_links)) l
      (distinct-selected test (usable_links p.half_links) (distinct-usable p.half_links (distinct_half_links p L)))
      (in-selected test l (usable_links p.half_links) (says-usable p.half_links l U)
      (equal-two (from l) (from l) l.here.port l.here.port refl refl))
      (λ k i. let r = selected-in test k (usable_links p.half_links) i in
      let c = two-equal (from k) (from l) k.here.port l.here.port r.1 in
      same k (usable-says p.half_links k r.0) c.0 c.1))
    where
      test : Link → Bool
      test k = eqb (from k) (from l) && eqb k.here.port l.here.port

      same : (k : Link) → Usable p.half_links k → from k ≡ from l → k.here.port ≡ l.here.port → k ≡ l
      same k W e f = one_link k l W U (ap (λ (h : HalfLink). h.link) (one_port p L k.here l.here W.here_listed U.here_listed e f)) e

  pub hop_crosses : (u v : ℕ) (l : Link) → hop_link p.half_links u v ≡ some l → crossed p.half_links u l.here.port ≡ some l
  hop_crosses u v l e = let K = hop-takes p.half_links u v l e in
      subst (λ (z : ℕ). crossed p.half_links z l.here.port ≡ some l) K.near (port_crosses l K.link)

  -- Two links that a hop takes, one in each direction, are one link.
  both_ways : (u v : ℕ) (l k : Link) → Takes p.half_links u v l → Takes p.half_links v u k → k ≡ turned l
  both_ways u v l k K M = one_link k (turned l) M.link U
      (equal (compared (link_cost k) (link_cost l)) (compared (number k) (number l)) ∙ K.link.one_number) (M.near ∙ v-near)
    where
      U : Usable p.half_links (turned l)
      U = usable-turned p.half_links l K.link

      W : Usable p.half_links (turned k)
      W = usable-turned p.half_links k M.link

      v-near : v ≡ from (turned l)
      v-near = sym K.far ∙ K.link.far_near

      not_lower : Lower (link_rank (turned l)) (link_rank k) → ⊥
      not_lower = M.lowest (turned l) U (sym v-near) (sym K.link.near_far ∙ K.near)

      not-higher : Lower (link_rank (turned k)) (link_rank l) → ⊥
      not-higher = K.lowest (turned k) W (sym M.link.far_near ∙ M.far) (sym M.link.near_far ∙ M.near)

      equal : (link_cost k < link_cost l) ⊎ (link_cost k ≡ link_cost l) ⊎ (link_cost l < link_cost k)
          → (number k < number l) ⊎ (number k ≡ number l) ⊎ (number l < number k) → number k ≡ number l
      equal (inl c) n = absurd (not-higher (inl (omega arith)))
      equal (inr (inr c)) n = absurd (not_lower (inl (omega arith)))
      equal (inr (inl c)) (inl n) = absurd (not-higher (inr (omega arith, inl (omega (arith, M.link.one_number)))))
      equal (inr (inl c)) (inr (inl n)) = n
      equal (inr (inl c)) (inr (inr n)) = absurd (not_lower (inr (omega arith, inl (omega (arith, K.link.one_number)))))

  -- "The frame from b to a passes the same links in reverse" (demand 3), hop by hop.
  pub hop-turned : (u v : ℕ) → hop_link p.half_links v u ≡ Option.map turned (hop_link p.half_links u v)
  hop-turned u v = go (hop_link p.half_links u v) (hop_link p.half_links v u) refl refl
    where
      back : (x y : ℕ) (l : Link) → Takes p.half_links x y l → hop_link p.half_links y x ≡ none → ⊥
      back x y l K e = no_hop_lem p.half_links y x e (turned l) (usable-turned p.half_links l K.link) (sym K.link.far_near ∙ K.far)
          (sym K.link.near_far ∙ K.near)

      go : (o c : Option Link) → hop_link p.half_links u v ≡ o → hop_link p.half_links v u ≡ c → c ≡ Option.map turned o
      go none none e f = refl
      go none (some k) e f = absurd (back v u k (hop-takes p.half_links v u k f) e)
      go (some l) none e f = absurd (back u v l (hop-takes p.half_links u v l e) f)
      go (some l) (some k) e f = ap some (both_ways u v l k (hop-takes p.half_links u v l e) (hop-takes p.half_links v u k f))

  -- Every usable link costs at least 1, so a hop costs 0 exactly where two bridges are not joined.
  costs_something : (l : Link) → Usable p.half_links l → 0 < link_cost l
  costs_something l U =
      omega (arith, (L.half_links.fits l.here U.here_listed).metric, (L.half_links.fits l.there U.there_listed).metric)

  pub hop-joined : (u v : ℕ) (l : Link) → hop_link p.half_links u v ≡ some l → Joined (graph_of p) u v
  hop-joined u v l e = subst (λ (o : Option Link). 0 < cost_of o) (sym e) (costs_something l (hop-takes p.half_links u v l e).link)

  pub joined-hop : (u v : ℕ) → Joined (graph_of p) u v → (l : Link) × (hop_link p.half_links u v ≡ some l)
  joined-hop u v j = go (hop_link p.half_links u v) refl j
    where
      go : (o : Option Link) → hop_link p.half_links u v ≡ o → 0 < cost_of o → (l : Link) × (hop_link p.half_links u v ≡ some l)
      go none e j = absurd (omega arith)
      go (some l) e j = (l, e)

  -- The graph of an accepted plan meets what the laws of chosen paths ask.
  pub graph-laws : GraphLaws (graph_of p)
  graph-laws = record {
    symmetric = λ u v. cost-turned (hop_link p.half_links u v) ∙ ap cost_of (sym (hop-turned u v));
    inside = inside;
  }
    where
      cost-turned : (o : Option Link) → cost_of o ≡ cost_of (Option.map turned o)
      cost-turned none = refl
      cost-turned (some l) = omega arith

      inside : (u v : ℕ) → 0 < cost_of (hop_link p.half_links u v) → u < length p.bridges
      inside u v j = let (l, e) = joined-hop u v j in let K = hop-takes p.half_links u v l e in
          subst (λ (z : ℕ). z < length p.bridges) K.near (L.half_links.fits l.here K.link.here_listed).near_known

  -- "Two bridges are joined when a usable link connects them".
  pub joined_says : (u v : ℕ) → T (joined p.half_links u v) → Joined (graph_of p) u v
  unfolding joined
  joined_says u v t = let r = any-in (connects u v) (usable_links p.half_links) t in
      let c = two-equal (from r.0) u (to r.0) v r.2 in
      go (hop_link p.half_links u v) refl r.0 (usable-says p.half_links r.0 r.1) c.0 c.1
    where
      go : (o : Option Link) → hop_link p.half_links u v ≡ o → (l : Link) → Usable p.half_links l → from l ≡ u → to l ≡ v
          → Joined (graph_of p) u v
      go none e l U i j = absurd (no_hop_lem p.half_links u v e l U i j)
      go (some k) e l U i j = hop-joined u v k e

  pub says-joined : (u v : ℕ) → Joined (graph_of p) u v → T (joined p.half_links u v)
  unfolding joined
  says-joined u v j = let (l, e) = joined-hop u v j in let K = hop-takes p.half_links u v l e in
      in-any (connects u v) l (usable_links p.half_links) (says-usable p.half_links l K.link)
      (equal-two (from l) u (to l) v K.near K.far)
