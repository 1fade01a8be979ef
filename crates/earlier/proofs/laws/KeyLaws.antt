-- Records by an index of their keys: one more, none, and a record that repeats an earlier one. Assumes nothing.
use Rattle.std.specs.Prelude.{ℕ, zero, suc, ◌+◌, ◌≤◌, ◌<◌, ◌≡◌, refl, List, Bool, true, false, not, ◌||◌, ◌⊎◌, eqb}
use Rattle.std.proofs.Common.{arith, sym, ap, ◌∙◌, inl, inr, eq-eqb, ne_eqb, eqb-true}
use Rattle.lists.specs.Lists.{any_passes}
use Rattle.lists.proofs.laws.NumberLaws.{le_or_gt, true-test, three-equal}
use Rattle.rule.specs.Records.{Bridge, bridge_of, address, vid_of, Member, member_of, Traffic, traffic_of}
use Rattle.rule.specs.Plan.{has_vid}
use Rattle.rule.specs.Check.{repeats_bridge, repeats_member, repeats_traffic}
use Rattle.key_index.specs.Places.{last_place}
use Rattle.key_index.proofs.laws.PlaceLaws.{last_within, last-passes, last-same, none_passes}
use Rattle.key_index.proofs.laws.Passing.{any_last}
use Rattle.key_index.specs.Index.{key_at, holds, Indexed, Entered}
use Rattle.table.specs.Positions.{record_at, records_at}
use Rattle.table.proofs.laws.PositionLaws.{search_records}
use Rattle.earlier.specs.Keys.{KeyedBy, address_key, member_key, traffic_key, BridgeIndexes, VidIndex, MemberIndex, TrafficIndex}

-- One record more, and none

pub keyed-more :
    {A : Type 0} {decoded : List ℕ → A} {width : ℕ} {key : A → ℕ} {s t ws : List ℕ} {from n : ℕ} →
    KeyedBy decoded width key s ws from n →
    (k : ℕ) →
    Entered s t n k →
    k ≡ key (record_at decoded width from ws n) →
    KeyedBy decoded width key t ws from (n + 1)
keyed-more {A} {decoded} {width} {key} {s} {t} {ws} {from} {n} K k E e = record { indexed = E.indexed; keys = λ i l. at i l (le_or_gt n i) }
  where
    at : (i : ℕ) → i < n + 1 → (n ≤ i) ⊎ (i < n) → key_at t i ≡ key (record_at decoded width from ws i)
    at i l (inl h) =
        let z : i ≡ n = omega arith
        in ap (key_at t) z ∙ E.new ∙ e ∙ ap (λ (j : ℕ). key (record_at decoded width from ws j)) (sym z)
    at i l (inr h) = E.kept i h ∙ K.keys i h

pub keyed-none :
    {A : Type 0} (decoded : List ℕ → A) (width : ℕ) (key : A → ℕ) (s ws : List ℕ) (from n : ℕ) →
    Indexed s n →
    n ≡ 0 →
    KeyedBy decoded width key s ws from n
keyed-none decoded width key s ws from n x e = record { indexed = x; keys = λ i l. absurd (omega arith) }

-- Where no place holds a key, no record has it; where one does, a record has it.
module _ {A : Type 0} {decoded : List ℕ → A} {width : ℕ} {key : A → ℕ} {s ws : List ℕ} {from n : ℕ} (K : KeyedBy decoded width key s ws from n) (k : ℕ) where
  pub no_record-has : last_place (holds s k) n ≡ 0 → (i : ℕ) → i < n → key (record_at decoded width from ws i) ≡ k → ⊥
  no_record-has e i l f = none_passes (holds s k) n e i l (eq-eqb (key_at s i) k (K.keys i l ∙ f))

  pub record-has :
      (place : ℕ) → place ≡ last_place (holds s k) n → (place ≡ 0 → ⊥) →
      (i : ℕ) × (i < n) × (key (record_at decoded width from ws i) ≡ k)
  record-has place e h = at (last_place (holds s k) n) refl (omega arith)
    where
      at : (p : ℕ) → last_place (holds s k) n ≡ p → 0 < p → (i : ℕ) × (i < n) × (key (record_at decoded width from ws i) ≡ k)
      at zero f q = elim q [ ]
      at (suc i) f q =
          let l : i < n = omega (arith, last_within (holds s k) n)
          in (i, l, sym (K.keys i l) ∙ eqb-true (key_at s i) k (last-passes (holds s k) n i f))

  -- Where the records that pass a test are those with the key, the index says whether one passes.
  pub found_by_key :
      (test : A → Bool) →
      ((i : ℕ) → i < n → eqb (key (record_at decoded width from ws i)) k ≡ test (record_at decoded width from ws i)) →
      not (eqb (last_place (holds s k) n) 0) ≡ any_passes test (records_at decoded width from ws n)
  found_by_key test same =
      ap (λ (x : ℕ). not (eqb x 0))
      (last-same (holds s k) (λ i. test (record_at decoded width from ws i)) n λ i l. ap (λ (x : ℕ). eqb x k) (K.keys i l) ∙ same i l)
      ∙ sym (any_last (λ i. test (record_at decoded width from ws i)) n)
      ∙ sym (search_records decoded width from ws test n)

-- Whether a record passes a test, by its number.
module _ {A : Type 0} (decoded : List ℕ → A) (width from : ℕ) (ws : List ℕ) (test : A → Bool) (n : ℕ) where
  abbrev passes : ℕ → Bool
  passes i = test (record_at decoded width from ws i)

  by_last : any_passes test (records_at decoded width from ws n) ≡ not (eqb (last_place passes n) 0)
  by_last = search_records decoded width from ws test n ∙ any_last passes n

  pub record-passes : (i : ℕ) → i < n → test (record_at decoded width from ws i) ≡ true → true ≡ any_passes test (records_at decoded width from ws n)
  record-passes i l e = sym (by_last ∙ ap not (ne_eqb (last_place (λ j. test (record_at decoded width from ws j)) n) 0 (λ z. none_passes (λ j. test (record_at decoded width from ws j)) n z i l e)))

  pub no_record-passes : ((i : ℕ) → i < n → passes i ≡ true → ⊥) → false ≡ any_passes test (records_at decoded width from ws n)
  no_record-passes h = sym (by_last ∙ ap not (eq-eqb (last_place passes n) 0 (none (last_place passes n) refl)))
    where
      none : (p : ℕ) → last_place passes n ≡ p → p ≡ 0
      none zero e = refl
      none (suc i) e = absurd (h i (omega (arith, last_within passes n)) (last-passes passes n i e))

-- Where no place holds the key that the records which pass a test have, none passes.
pub nothing_with_key :
    {A : Type 0} {decoded : List ℕ → A} {width : ℕ} {key : A → ℕ} {s ws : List ℕ} {from n : ℕ} →
    KeyedBy decoded width key s ws from n →
    (k : ℕ) (test : A → Bool) →
    ((r : A) → test r ≡ true → key r ≡ k) →
    (place : ℕ) → place ≡ last_place (holds s k) n → place ≡ 0 →
    false ≡ any_passes test (records_at decoded width from ws n)
nothing_with_key {decoded = decoded} {width = width} {ws = ws} {from = from} {n = n} K k test same place e h =
    no_record-passes decoded width from ws test n λ i l p.
    no_record-has K k (sym e ∙ h) i l (same (record_at decoded width from ws i) p)

-- Bridges

module _ {sources addresses ws : List ℕ} {n : ℕ} (x : BridgeIndexes sources addresses ws n) (b : Bridge) where
  pub source-repeated :
      (place : ℕ) → place ≡ last_place (holds sources b.sp_source_id) n → (place ≡ 0 → ⊥) →
      true ≡ any_passes (repeats_bridge b) (records_at bridge_of 3 0 ws n)
  source-repeated place e h =
      let (i, l, f) = record-has x.by_source b.sp_source_id place e h
      in record-passes bridge_of 3 0 ws (repeats_bridge b) n i l (passes (record_at bridge_of 3 0 ws i) f)
    where
      passes : (r : Bridge) → r.sp_source_id ≡ b.sp_source_id → repeats_bridge b r ≡ true
      passes r f = rw (eq-eqb r.sp_source_id b.sp_source_id f) (or (eqb (address r) (address b)))
        where
          or : (y : Bool) → (y || true) ≡ true
          or true = refl
          or false = refl

  pub nothing-repeated :
      (place other : ℕ) → place ≡ last_place (holds sources b.sp_source_id) n → place ≡ 0 →
      other ≡ last_place (holds addresses (address_key b)) n → other ≡ 0 →
      false ≡ any_passes (repeats_bridge b) (records_at bridge_of 3 0 ws n)
  nothing-repeated place other e h f g =
      no_record-passes bridge_of 3 0 ws (repeats_bridge b) n λ i l p.
      neither (record_at bridge_of 3 0 ws i) (no_record-has x.by_source b.sp_source_id (sym e ∙ h) i l)
      (no_record-has x.by_address (address_key b) (sym f ∙ g) i l) p
    where
      neither :
          (r : Bridge) → (r.sp_source_id ≡ b.sp_source_id → ⊥) → (address_key r ≡ address_key b → ⊥) → repeats_bridge b r ≡ true → ⊥
      neither r s t p = go (eqb (address r) (address b)) refl (rw (ne_eqb r.sp_source_id b.sp_source_id s) at p)
        where
          go : (y : Bool) → eqb (address r) (address b) ≡ y → (y || false) ≡ true → ⊥
          go true q m = t (let z : address r ≡ address b = eqb-true (address r) (address b) q in omega arith)
          go false q m = let z : ◌≡◌ {A = ℕ} 0 1 = cc in omega arith

-- Members

same-member-key : (m r : Member) → repeats_member m r ≡ true → member_key r ≡ member_key m
same-member-key m r p =
    let (a, b, c) = three-equal r.bridge m.bridge r.isid m.isid r.vid m.vid (true-test (repeats_member m r) p)
    in omega arith

pub no_member-repeated :
    {members ws : List ℕ} {from n : ℕ} → MemberIndex members ws from n → (m : Member) (place : ℕ) →
    place ≡ last_place (holds members (member_key m)) n → place ≡ 0 →
    false ≡ any_passes (repeats_member m) (records_at member_of 2 from ws n)
no_member-repeated x m = nothing_with_key x (member_key m) (repeats_member m) (same-member-key m)

-- Traffic, and the VIDs that it names

same-traffic-key : (t r : Traffic) → repeats_traffic t r ≡ true → traffic_key r ≡ traffic_key t
same-traffic-key t r p =
    let (a, b, c) = three-equal r.vid t.vid r.from t.from r.to t.to (true-test (repeats_traffic t r) p)
    in omega arith

pub no_traffic-repeated :
    {traffic ws : List ℕ} {from n : ℕ} → TrafficIndex traffic ws from n → (t : Traffic) (place : ℕ) →
    place ≡ last_place (holds traffic (traffic_key t)) n → place ≡ 0 →
    false ≡ any_passes (repeats_traffic t) (records_at traffic_of 2 from ws n)
no_traffic-repeated x t = nothing_with_key x (traffic_key t) (repeats_traffic t) (same-traffic-key t)

pub vid_by_index :
    {vids ws : List ℕ} {from n : ℕ} → VidIndex vids ws from n → (vid : ℕ) →
    not (eqb (last_place (holds vids vid) n) 0) ≡ any_passes (has_vid vid) (records_at vid_of 1 from ws n)
vid_by_index x vid = found_by_key x vid (has_vid vid) (λ i l. refl)
