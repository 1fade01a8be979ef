-- The count of usable links, half-link by half-link. Assumes nothing.
use Prim.Native.Nat.{ℕ, ◌+◌, ◌≤◌, ◌<◌}
use native.Mathlib.Omega.{arith}
use Rattle.std.proofs.Math.Path.{◌≡◌, refl, sym, ap}
use Rattle.std.proofs.Common.{◌∙◌, inl, inr, lt-ltb, le-ltb}
use mathlib.Core.List.{List, [], ◌∷◌, map}
use Rattle.std.specs.Prelude.{◌⊎◌, Bool, ltb}
use Rattle.std.proofs.Math.Bool.{true, false, cond}
use Rattle.std.proofs.Math.ListN.{length}
use Rattle.lists.specs.Lists.{selected, cons_if}
use Rattle.lists.specs.Members.{sum_over}
use Rattle.lists.proofs.laws.GivenLaws.{selected-flat_map}
use Rattle.lists.proofs.laws.SumLaws.{length-flat_map, sum_most, sum_append}
use Rattle.rule.specs.declared.answer.Counts.{Counts}
use Rattle.rule.specs.Records.{HalfLink, half_link_of, unusable_metric}
use Rattle.rule.specs.Plan.{Plan}
use Rattle.rule.specs.Links.{Link, mates, links_of, from, to, usable_metric, is_usable, usable_links, count_usable}
use Rattle.rule.specs.PlanLaws.{PlanLaws}
use Rattle.table.specs.declared.shape.Shape.{Shape}
use Rattle.table.specs.Positions.{records_at, half_links_from, plan_at}
use Rattle.table.proofs.laws.PositionLaws.{no_records_lem, one_more}
use Rattle.table.specs.Numbered.{half_link_number}
use Rattle.links.specs.Mates.{metric_with, link_metric, counted}
use Rattle.links.proofs.laws.MateLaws.{metric-usable, mates-at-most-one}

pub counted-most : (hs : List HalfLink) (h : HalfLink) → counted hs h ≤ 1
counted-most hs h = go (ltb h.near h.far) (usable_metric (link_metric hs h))
  where
    go : (b u : Bool) → cond b (cond u 1 0) 0 ≤ 1
    go true true = omega arith
    go true false = omega arith
    go false u = omega arith

module _ (p : Plan) (L : PlanLaws p) where
  abbrev hs : List HalfLink
  hs = p.half_links

  abbrev is_lower : Link → Bool
  is_lower l = ltb (from l) (to l)

  abbrev seen : HalfLink → List Link
  seen h = map (λ m. record { here = h; there = m }) (selected (mates h) hs)

  -- Of the links that a half-link has with these mates, those counted.
  abbrev among : HalfLink → List HalfLink → ℕ
  among h ms = length (selected is_lower (selected is_usable (map (λ m. record { here = h; there = m }) ms)))

  abbrev value : HalfLink → List HalfLink → ℕ
  value h ms = cond (ltb h.near h.far) (cond (usable_metric (metric_with h ms)) 1 0) 0

  alone : (h : HalfLink) → among h [] ≡ value h []
  unfolding selected
  alone h = either (ltb h.near h.far)
    where
      either : (b : Bool) → ◌≡◌ {A = ℕ} 0 (cond b (cond (usable_metric unusable_metric) 1 0) 0)
      either true = refl
      either false = refl

  linked : (h m : HalfLink) → among h (m ∷ []) ≡ value h (m ∷ [])
  unfolding selected
  linked h m =
      either link (is_usable link) (is_lower link) refl
      ∙ ap (λ (u : Bool). cond (is_lower link) (cond u 1 0) 0) (sym (metric-usable link))
    where
      link : Link
      link = record { here = h; there = m }

      either : (l : Link) (u b : Bool) → is_lower l ≡ b → length (selected is_lower (cons_if u l [])) ≡ cond b (cond u 1 0) 0
      either l true true e = rw e refl
      either l true false e = rw e refl
      either l false true e = refl
      either l false false e = refl

  -- One is counted where the one link is usable and is seen from the lower bridge.
  counted-one : (h : HalfLink) → among h (selected (mates h) hs) ≡ counted hs h
  counted-one h = go (mates-at-most-one p L h)
    where
      go :
          (selected (mates h) hs ≡ []) ⊎ ((m : HalfLink) × (selected (mates h) hs ≡ m ∷ [])) →
          among h (selected (mates h) hs) ≡ value h (selected (mates h) hs)
      go (inl e) = rw e (alone h)
      go (inr (m, e)) = rw e (linked h m)

  pub count_by_half_links : sum_over (counted hs) hs ≡ count_usable hs
  unfolding count_usable usable_links links_of
  count_by_half_links =
      omega (
        arith,
        sum_most (counted hs) each hs (λ h k. omega (arith, counted-one h)),
        sum_most each (counted hs) hs (λ h k. omega (arith, counted-one h)),
      )
      ∙ sym (length-flat_map (λ h. selected is_lower (selected is_usable (seen h))) hs)
      ∙ ap length (sym (selected-flat_map is_lower (λ h. selected is_usable (seen h)) hs))
      ∙ ap (λ (t : List Link). length (selected is_lower t)) (sym (selected-flat_map is_usable seen hs))
    where
      each : HalfLink → ℕ
      each h = length (selected is_lower (selected is_usable (seen h)))

-- The first `i` half-links have been counted.
module _ (ws : List ℕ) (s : Shape) where
  pub record Counting (i count : ℕ) : Type 0 where
    pub within : i ≤ s.half_links
    pub most : count ≤ i
    pub so_far : count ≡ sum_over (counted (plan_at ws s).half_links) (records_at half_link_of 3 (half_links_from s) ws i)

  pub counting_starts : Counting 0 0
  counting_starts =
      record {
        within = omega arith;
        most = omega arith;
        so_far =
            sym (ap (λ (t : List HalfLink). sum_over (counted (plan_at ws s).half_links) t) (no_records_lem half_link_of 3 (half_links_from s) ws));
      }

  module _ {i count : ℕ} (C : Counting i count) where
    pub counting_goes_on : (one : ℕ) → i < s.half_links → one ≡ counted (plan_at ws s).half_links (half_link_number ws s i) → Counting (i + 1) (count + one)
    counting_goes_on one l e =
        record {
          within = omega arith;
          most = omega (arith, C.most, counted-most (plan_at ws s).half_links (half_link_number ws s i));
          so_far =
              omega (
                arith,
                C.so_far,
                sum_append (counted (plan_at ws s).half_links) (records_at half_link_of 3 (half_links_from s) ws i) (half_link_number ws s i ∷ []),
              )
              ∙ ap (λ (t : List HalfLink). sum_over (counted (plan_at ws s).half_links) t) (sym (one_more half_link_of 3 (half_links_from s) ws i));
        }

    pub counting_ends : PlanLaws (plan_at ws s) → s.half_links ≤ i → count ≡ count_usable (plan_at ws s).half_links
    counting_ends L l =
        let e : i ≡ s.half_links = omega (arith, C.within)
        in rw e at C.so_far ∙ count_by_half_links (plan_at ws s) L

-- What the half-link `k` adds, where `h` was read.
module _ (hs : List HalfLink) (k h : HalfLink) (e : h ≡ k) where
  pub counted-higher : h.far ≤ h.near → 0 ≡ counted hs k
  counted-higher l = let z : counted hs h ≡ 0 = simp (le-ltb h.near h.far l) in sym z ∙ ap (counted hs) e

  module _ (l : h.near < h.far) (m : ℕ) (f : m ≡ link_metric hs k) where
    lower : cond (usable_metric m) 1 0 ≡ counted hs k
    lower =
        ap (λ (x : ℕ). cond (usable_metric x) 1 0) (f ∙ ap (link_metric hs) (sym e))
        ∙ ap (λ (b : Bool). cond b (cond (usable_metric (link_metric hs h)) 1 0) 0) (sym (lt-ltb h.near h.far l))
        ∙ ap (counted hs) e

    pub counted-usable : true ≡ usable_metric m → 1 ≡ counted hs k
    counted-usable u = ap (λ (b : Bool). cond b 1 0) u ∙ lower

    pub counted_unusable : false ≡ usable_metric m → 0 ≡ counted hs k
    counted_unusable u = ap (λ (b : Bool). cond b 1 0) u ∙ lower

-- Counts are the same where their numbers are.
pub same-counts :
    {a b c d e a' b' c' d' e' : ℕ} →
    a ≡ a' →
    b ≡ b' →
    c ≡ c' →
    d ≡ d' →
    e ≡ e' →
    ◌≡◌ {A = Counts}
    (record { bridges = a; half_links = b; usable_links = c; vids = d; members = e })
    (record { bridges = a'; half_links = b'; usable_links = c'; vids = d'; members = e' })
same-counts i j k l m = λ x. record { bridges = i x; half_links = j x; usable_links = k x; vids = l x; members = m x }
