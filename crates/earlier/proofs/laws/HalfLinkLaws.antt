-- The half-links of a link number, and a near bridge with port that is there already, by the last place of an index. Assumes nothing.
use Rattle.std.specs.Prelude.{ℕ, suc, ◌+◌, ◌*◌, ◌-◌, ◌≤◌, ◌<◌, ◌≡◌, refl, List, [], ◌∷◌, ◌++◌, map, Bool, true, false, not, ◌&&◌, ◌⊎◌, eqb, drop}
use Rattle.std.proofs.Common.{arith, ap, ◌∙◌, inl, inr, eq-eqb, ne_eqb, eqb-true}
use Rattle.std.proofs.Math.Path.{sym}
use Rattle.lists.specs.Lists.{rising, any_passes, selected}
use Rattle.lists.proofs.laws.NumberLaws.{same_or_not}
use Rattle.rule.specs.Records.{HalfLink, half_link_of}
use Rattle.rule.specs.Check.{repeats_port, has_link, mirrors, wrong_half}
use Rattle.key_index.specs.Places.{last_place}
use Rattle.key_index.proofs.laws.PlaceLaws.{last_within, last-passes, last-same}
use Rattle.key_index.proofs.laws.Passing.{nothing-passes, last-passing}
use Rattle.key_index.specs.Index.{key_at, holds, earlier_place}
use Rattle.table.specs.Positions.{record_at, records_at}
use Rattle.earlier.specs.HalfLinks.{port_key, number_key, Keyed}
use Rattle.earlier.proofs.laws.KeyLaws.{found_by_key}

-- Two or more in front of the record: it is a third.
third_is_wrong : (h : HalfLink) (xs : List HalfLink) (a b : HalfLink) → true ≡ wrong_half h ((xs ++ (a ∷ [])) ++ (b ∷ []))
third_is_wrong h [] a b = refl
third_is_wrong h (x ∷ []) a b = refl
third_is_wrong h (x ∷ y ∷ xs) a b = refl

-- The half-links of the record's link number.
module _ {links ws : List ℕ} {from n : ℕ} (k : Keyed number_key links ws from n) (h : HalfLink) where
  abbrev half_link_at : ℕ → HalfLink
  half_link_at = record_at half_link_of 3 from ws

  abbrev of_number : ℕ → Bool
  of_number i = has_link h.link (half_link_at i)

  abbrev earlier : List HalfLink
  earlier = selected (has_link h.link) (records_at half_link_of 3 from ws n)

  by_index : (m : ℕ) → m ≤ n → last_place (holds links h.link) m ≡ last_place of_number m
  by_index m l =
      last-same (holds links h.link) of_number m λ i s. ap (λ (x : ℕ). eqb x h.link) (k.keys i (omega arith))

  pub first_of_number : (place : ℕ) → place ≡ last_place (holds links h.link) n → place ≡ 0 → false ≡ wrong_half h earlier
  unfolding records_at
  first_of_number place e z =
      sym (ap (wrong_half h) (nothing-passes half_link_at (has_link h.link) n (sym (by_index n (omega arith)) ∙ sym e ∙ z)))

  module _ (place : ℕ) (e : place ≡ last_place (holds links h.link) n) (i : ℕ) (p : place ≡ suc i) where
    within : i < n
    within = omega (arith, last_within (holds links h.link) n)

    up_to-last : earlier ≡ selected (has_link h.link) (map half_link_at (rising 0 i)) ++ (half_link_at i ∷ [])
    unfolding records_at
    up_to-last = last-passing half_link_at (has_link h.link) n i (sym (by_index n (omega arith)) ∙ sym e ∙ p)

    -- The place before, as the index has it, is the last of the link number among the half-links before.
    place-before : earlier_place links place ≡ last_place of_number i
    place-before =
        ap (earlier_place links) p
        ∙ ap (λ (x : ℕ). last_place (holds links x) i)
        (eqb-true (key_at links i) h.link (last-passes (holds links h.link) n i (sym e ∙ p)))
        ∙ by_index i (omega (arith, within))

    third : (q j : ℕ) → q ≡ earlier_place links place → q ≡ suc j → true ≡ wrong_half h earlier
    third q j f g =
        third_is_wrong h (selected (has_link h.link) (map half_link_at (rising 0 j))) (half_link_at j) (half_link_at i)
        ∙ ap (λ (t : List HalfLink). wrong_half h (t ++ (half_link_at i ∷ [])))
        (sym (last-passing half_link_at (has_link h.link) i j (sym place-before ∙ sym f ∙ g)))
        ∙ ap (wrong_half h) (sym up_to-last)

    second : (q : ℕ) → q ≡ earlier_place links place → q ≡ 0 → not (mirrors h (half_link_at i)) ≡ wrong_half h earlier
    second q f g =
        ap (λ (t : List HalfLink). wrong_half h (t ++ (half_link_at i ∷ [])))
        (sym (nothing-passes half_link_at (has_link h.link) i (sym place-before ∙ sym f ∙ g)))
        ∙ ap (wrong_half h) (sym up_to-last)

  module _ (place : ℕ) (e : place ≡ last_place (holds links h.link) n) (some : place ≡ 0 → ⊥) (q : ℕ) (f : q ≡ earlier_place links place) where
    pub third_of_number : (q ≡ 0 → ⊥) → true ≡ wrong_half h earlier
    third_of_number g = third place e (place - 1) (omega arith) q (q - 1) f (omega arith)

    pub second_of_number :
        q ≡ 0 →
        (at : ℕ) →
        at ≡ from + 3 * (place - 1) →
        (v : HalfLink) →
        v ≡ half_link_of (drop at ws) →
        (m : Bool) →
        m ≡ mirrors h v →
        not m ≡ wrong_half h earlier
    second_of_number g at a v b m c =
        ap not (c ∙ ap (mirrors h) (b ∙ ap (λ (w : ℕ). half_link_of (drop w ws)) a)) ∙ second place e (place - 1) (omega arith) q f g

-- A near bridge with port

same_key : (a b c d : ℕ) → b < 65536 → d < 65536 → eqb (a * 65536 + b) (c * 65536 + d) ≡ (eqb a c && eqb b d)
same_key a b c d l m = go (same_or_not a c) (same_or_not b d)
  where
    go : (a ≡ c) ⊎ (a ≡ c → ⊥) → (b ≡ d) ⊎ (b ≡ d → ⊥) → eqb (a * 65536 + b) (c * 65536 + d) ≡ (eqb a c && eqb b d)
    go (inl e) (inl f) = rw (eq-eqb a c e, eq-eqb b d f) (eq-eqb (a * 65536 + b) (c * 65536 + d) (omega arith))
    go (inl e) (inr f) =
        rw (eq-eqb a c e, ne_eqb b d f) (ne_eqb (a * 65536 + b) (c * 65536 + d) (λ z. f (omega arith)))
    go (inr e) f = rw (ne_eqb a c e) (ne_eqb (a * 65536 + b) (c * 65536 + d) (λ z. e (omega arith)))

pub port-repeated :
    {ports ws : List ℕ} {from n : ℕ} →
    Keyed port_key ports ws from n →
    (h : HalfLink) →
    h.port < 65536 →
    not (eqb (last_place (holds ports (h.near * 65536 + h.port)) n) 0)
    ≡ any_passes (repeats_port h) (records_at half_link_of 3 from ws n)
port-repeated {ports} {ws} {from} {n} k h l =
    found_by_key k (h.near * 65536 + h.port) (repeats_port h) λ i s.
    same_key (record_at half_link_of 3 from ws i).near (record_at half_link_of 3 from ws i).port h.near h.port (omega arith) l
