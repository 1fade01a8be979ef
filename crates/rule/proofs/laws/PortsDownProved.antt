-- Request A3 of document 02, proved: 12 between two parts that marked links alone join; and the usable links of a plan are those of its
-- half-links that are not down, as document 01 alone has them. Assumes nothing.
use Rattle.std.specs.Prelude.{ℕ, ◌≡◌, refl, ◌≢◌, Bool, true, false, not, ◌&&◌, cond, T}
use Rattle.std.proofs.Common.{arith, sym, ap, ◌∙◌, subst}
use mathlib.Core.List.{List, [], ◌∷◌, map}
use Rattle.lists.specs.Lists.{selected, cons_if}
use Rattle.lists.specs.Members.{In}
use Rattle.lists.proofs.laws.NumberLaws.{first_of}
use Rattle.lists.proofs.laws.GivenLaws.{selected-flat_map, flat_map-selected, flat_map-same, selected-map}
use Rattle.lists.proofs.laws.DistinctLaws.{selected-all, selected-none}
use Rattle.graph.specs.Graph.{Joined, Onward, IsPath}
use Rattle.rule.specs.Records.{HalfLink, field_at, half_link_of}
use Rattle.rule.specs.Outcome.{lent_to}
use Rattle.rule.specs.Plan.{Plan, plan_of_vid}
use Rattle.rule.specs.Links.{Link, mates, links_of, from, to, link_cost, usable_metric, neither_down, is_usable, usable_links, graph_of}
use Rattle.rule.specs.Calls.{path_found, path_outcome}
use Rattle.rule.specs.PlanLaws.{PlanLaws}
use Rattle.rule.specs.PortsDown.{MarkedLinksAlone, PartsApart}
use Rattle.rule.proofs.laws.Accepted.{accepted-laws}
use Rattle.rule.proofs.laws.VidPlan.{vid-plan-laws}
use Rattle.rule.proofs.laws.LinkLaws.{Usable, seen_from, usable_is_link, hop-takes, joined-hop}
use Rattle.rule.proofs.laws.CallLaws.{path-asked}
use Rattle.rule.proofs.laws.Network.{no_path_is_none}

-- Two tests that do not differ are equal.
not-different : (a b : Bool) → (a ≢ b → ⊥) → a ≡ b
not-different true true f = refl
not-different false false f = refl
not-different true false f = absurd (f λ e. subst T e tt)
not-different false true f = absurd (f λ e. subst T (sym e) tt)

module _ (p : Plan) (L : PlanLaws p) (part : ℕ → Bool) (marked : MarkedLinksAlone p.half_links part) where
  -- A usable link stays within its part, and so does a path.
  joined-within : (u v : ℕ) → Joined (graph_of p) u v → part u ≡ part v
  joined-within u v j =
      let (l, e) = joined-hop p L u v j in
      let K = hop-takes p.half_links u v l e in
      ap part (sym K.near) ∙ within l K.link ∙ ap part K.far
    where
      within : (l : Link) → Usable p.half_links l → part (from l) ≡ part (to l)
      within l U = not-different (part (from l)) (part (to l))
          λ d. subst T (marked l (usable_is_link p.half_links l U) d) U.neither_down_lem

  onward-within : (u b : ℕ) (t : List ℕ) → Onward (graph_of p) u t b → part u ≡ part b
  onward-within u b [] e = ap part e
  onward-within u b (v ∷ t) (j, m, o) = joined-within u v j ∙ onward-within v b t o

  pub path-within : (a b : ℕ) (q : List ℕ) → IsPath (graph_of p) a b q → part a ≡ part b
  path-within a b [] h = elim h [ ]
  path-within a b (u ∷ t) (e, o) = ap part (sym e) ∙ onward-within u b t o

-- "Between two parts of a plan that marked links alone join, 12 is given."
pub parts-apart : PartsApart
unfolding path_outcome
parts-apart t p e v k part marked a b h l d lent =
    ap (lent_to lent)
    (path-asked t p e (accepted-laws t p e) v k a b h l
    ∙ ap (path_found q) (no_path_is_none q laws v.index a b (λ path o. d (path-within q laws part marked a b path o))))
  where
    q : Plan
    q = plan_of_vid p v

    laws : PlanLaws q
    laws = vid-plan-laws p (accepted-laws t p e) v

-- The links of document 01 alone that are usable: by their cost.
abbrev pub costs_usable : Link → Bool
costs_usable l = usable_metric (link_cost l)

abbrev pub usable_before : List HalfLink → List Link
usable_before hs = selected costs_usable (links_of hs)

abbrev pub is_up : HalfLink → Bool
is_up h = not h.down

-- Seen from one half-link: where it is down none is usable, else those with a mate that is not down.
usable-from : (h : HalfLink) (hs : List HalfLink)
    → selected is_usable (seen_from hs h) ≡ cond (is_up h) (selected costs_usable (seen_from (selected is_up hs) h)) []
unfolding selected
usable-from h hs = selected-map link is_usable (selected (mates h) hs) ∙ go (is_up h) refl
  where
    link : HalfLink → Link
    link m = record { here = h; there = m }

    cheap : HalfLink → Bool
    cheap m = costs_usable (link m)

    none : (xs : List HalfLink) → is_up h ≡ false → selected (λ m. is_usable (link m)) xs ≡ []
    none xs e = selected-none (λ m. is_usable (link m)) xs
        λ m i t. subst T e (first_of (is_up h) (is_up m) (first_of (neither_down (link m)) (cheap m) t))

    same : (xs : List HalfLink) → is_up h ≡ true
        → selected (λ m. is_usable (link m)) (selected (mates h) xs) ≡ selected cheap (selected (mates h) (selected is_up xs))
    same [] e = refl
    same (m ∷ xs) e = each (mates h m) (is_up m) refl refl (same xs e)
      where
        each : (b u : Bool) → mates h m ≡ b → is_up m ≡ u
            → selected (λ m. is_usable (link m)) (selected (mates h) xs) ≡ selected cheap (selected (mates h) (selected is_up xs))
            → selected (λ m. is_usable (link m)) (cons_if b m (selected (mates h) xs)) ≡ selected cheap (selected (mates h) (cons_if u m (selected is_up xs)))
        each true true f g k = rw f (λ i. cons_if ((e i && g i) && cheap m) m (k i))
        each true false f g k = (λ i. cons_if ((e i && g i) && cheap m) m (selected (λ m. is_usable (link m)) (selected (mates h) xs))) ∙ k
        each false true f g k = rw f k
        each false false f g k = k

    go : (b : Bool) → is_up h ≡ b
        → map link (selected (λ m. is_usable (link m)) (selected (mates h) hs))
        ≡ cond b (selected costs_usable (seen_from (selected is_up hs) h)) []
    go true e = ap (map link) (same hs e) ∙ sym (selected-map link costs_usable (selected (mates h) (selected is_up hs)))
    go false e = ap (map link) (none (selected (mates h) hs) e)

-- The usable links of a plan are those that document 01 alone has where half-links that are down are left out.
pub as_if_absent : (hs : List HalfLink) → usable_links hs ≡ usable_before (selected is_up hs)
unfolding usable_links links_of
as_if_absent hs =
    selected-flat_map is_usable (seen_from hs) hs
    ∙ flat_map-same (λ h. selected is_usable (seen_from hs h)) (λ h. cond (is_up h) (left h) []) hs (λ h i. usable-from h hs)
    ∙ sym (flat_map-selected left is_up hs)
    ∙ sym (selected-flat_map costs_usable (seen_from (selected is_up hs)) (selected is_up hs))
  where
    left : HalfLink → List Link
    left h = selected costs_usable (seen_from (selected is_up hs) h)

-- Where none is down, all is as document 01 alone has it: joined pairs, hops, graph, frames, entries and counts know the marks by the
-- usable links only.
pub none-down : (hs : List HalfLink) → ((h : HalfLink) → In h hs → h.down ≡ false) → usable_links hs ≡ usable_before hs
none-down hs clear = as_if_absent hs ∙ ap usable_before (selected-all is_up hs λ h i. subst (λ (b : Bool). T (not b)) (sym (clear h i)) tt)

-- A record whose bits 27..24 are zero, as document 01 alone has it, is that of a half-link that is not down, and has no zero bit set.
pub plain-record : (r : List ℕ) → field_at 0 27 24 r ≡ 0 → ((half_link_of r).down ≡ false) × (field_at 0 26 24 r ≡ 0)
plain-record r e = let bit_27 : field_at 0 27 27 r ≡ 0 = omega (arith, e) in (simp bit_27 refl, omega (arith, e))
