-- The index of near bridges, the half-links of a bridge visited through it from the last to the first, and how many were visited.
-- Assumes nothing.
use Rattle.std.specs.Prelude.{ℕ, zero, suc, ◌+◌, ◌-◌, ◌≤◌, ◌<◌, ◌≡◌, refl, List, [], ◌∷◌, ◌⊎◌, Bool, true, false}
use Rattle.std.proofs.Common.{arith, sym, ap, ◌∙◌, inl, inr, eq-eqb, eqb-true}
use Rattle.lists.specs.Members.{In, EveryTwo}
use Rattle.lists.proofs.laws.ListNotions.{Distinct}
use Rattle.lists.proofs.laws.NumberLaws.{le_or_gt}
use Rattle.lists.proofs.laws.DistinctLaws.{at_most}
use Rattle.rule.specs.Words.{words_of}
use Rattle.rule.specs.Records.{HalfLink, half_link_of}
use Rattle.key_index.specs.Places.{last_place}
use Rattle.key_index.proofs.laws.PlaceLaws.{last-here, last-earlier, last_within, last-passes}
use Rattle.key_index.specs.Index.{key_at, holds, Indexed, Entered, earlier_place}
use Rattle.earlier.specs.HalfLinks.{Keyed}
use Rattle.earlier.proofs.laws.KeyLaws.{keyed-more, keyed-none}
use Rattle.table.specs.declared.shape.Shape.{Shape}
use Rattle.table.specs.Positions.{half_links_from}
use Rattle.table.specs.Numbered.{half_link_number}
use Rattle.network.specs.Rows.{NearIndex, Visited}

-- Above the last place that passes nothing passes.
none_after : (test : ℕ → Bool) (n i : ℕ) → last_place test n ≤ i → i < n → test i ≡ true → ⊥
none_after test zero i l h e = omega arith
none_after test (suc n) i l h e = go (test n) refl (le_or_gt n i) (none_after test n i)
  where
    go : (b : Bool) → test n ≡ b → (n ≤ i) ⊎ (i < n) → (last_place test n ≤ i → i < n → test i ≡ true → ⊥) → ⊥
    go true f m ih = omega (arith, last-here test n f)
    go false f (inl m) ih =
        let z : i ≡ n = omega arith
        in let d : true ≡ false = sym e ∙ ap test z ∙ f
        in let y : ◌≡◌ {A = ℕ} 0 1 = cc
        in omega arith
    go false f (inr m) ih = ih (omega (arith, last-earlier test n f)) m e

-- The near bridges of the first `i` half-links are entered.
pub record Entering (t : List ℕ) (s : Shape) (index : List ℕ) (i : ℕ) : Type 0 where
  pub within : i ≤ s.half_links
  pub keyed : Keyed (λ h. h.near) index (words_of t) (half_links_from s) i

pub entering_starts : (t : List ℕ) (s : Shape) {index : List ℕ} → Indexed index 0 → Entering t s index 0
entering_starts t s {index} x =
    record { within = omega arith; keyed = keyed-none half_link_of 3 (λ h. h.near) index (words_of t) (half_links_from s) 0 x refl }

module _ {t : List ℕ} {s : Shape} {index : List ℕ} {i : ℕ} (N : Entering t s index i) where
  pub entering_goes_on :
      i < s.half_links →
      {index' : List ℕ} (h : HalfLink) →
      h ≡ half_link_number (words_of t) s i →
      Entered index index' i h.near →
      Entering t s index' (i + 1)
  entering_goes_on l h e E =
      record { within = omega arith; keyed = keyed-more N.keyed h.near E (ap (λ (k : HalfLink). k.near) e) }

  pub entering_ends : s.half_links ≤ i → NearIndex index t s
  entering_ends l = let e : i ≡ s.half_links = omega (arith, N.within) in record { keyed = rw e at N.keyed }

-- The half-links of the bridge `u`, by the places of the index.
module _ {near t : List ℕ} {s : Shape} (K : NearIndex near t s) (u : ℕ) where
  abbrev near_of : ℕ → ℕ
  near_of i = (half_link_number (words_of t) s i).near

  -- The last place up to `m`: the half-link there is of the bridge, and no later one is.
  module _ (m : ℕ) (inside : m ≤ s.half_links) (place : ℕ) (e : place ≡ last_place (holds near u) m) where
    pub last-inside : place ≤ m
    last-inside = omega (arith, last_within (holds near u) m)

    pub last_of_bridge : 0 < place → near_of (place - 1) ≡ u
    last_of_bridge l =
        sym (K.keyed.keys (place - 1) (omega (arith, last-inside)))
        ∙ eqb-true (key_at near (place - 1)) u (last-passes (holds near u) m (place - 1) (sym e ∙ omega arith))

    pub none-later : (i : ℕ) → place ≤ i → i < m → near_of i ≡ u → ⊥
    none-later i l h f = none_after (holds near u) m i (omega arith) h (eq-eqb (key_at near i) u (K.keyed.keys i (omega arith) ∙ f))

  -- The place before a place of the bridge is its last place up to there.
  pub earlier_of_bridge :
      (place : ℕ) → 0 < place → place ≤ s.half_links → near_of (place - 1) ≡ u → earlier_place near place ≡ last_place (holds near u) (place - 1)
  earlier_of_bridge place l h f =
      let e : place ≡ suc (place - 1) = omega arith
      in ap (earlier_place near) e ∙ ap (λ (k : ℕ). last_place (holds near k) (place - 1)) (K.keyed.keys (place - 1) (omega arith) ∙ f)

distinct-numbers : (xs : List ℕ) → EveryTwo (λ i j. i ≡ j → ⊥) xs → Distinct xs
distinct-numbers [] d = tt
distinct-numbers (x ∷ xs) d = (λ k. d.0 x k refl, distinct-numbers xs d.1)

pub none-visited : (t : List ℕ) (s : Shape) (first : ℕ) → Visited t s 0 first 0
none-visited t s first =
    record { numbers = []; distinct = tt; within = λ i k. absurd k; done = λ i k. absurd k; enough = omega arith }

module _ {t : List ℕ} {s : Shape} {u first at : ℕ} (W : Visited t s u first at) where
  abbrev bridge_at : ℕ → ℕ
  bridge_at i = (half_link_number (words_of t) s i).near

  pub visited-few : at ≤ s.half_links
  visited-few = omega (arith, W.enough, at_most s.half_links W.numbers (distinct-numbers W.numbers W.distinct) W.within)

  -- All half-links of the bridge were visited.
  pub bridge-visited : first ≤ 0 → (later : ℕ) → Visited t s (u + 1) later at
  bridge-visited l later =
      record {
        numbers = W.numbers;
        distinct = W.distinct;
        within = W.within;
        done = λ i k. inl (before i (W.done i k));
        enough = W.enough;
      }
    where
      before : (i : ℕ) → (bridge_at i < u) ⊎ ((bridge_at i ≡ u) × (first ≤ i)) → bridge_at i < u + 1
      before i (inl h) = omega arith
      before i (inr (h, k)) = omega arith

  module _ (first' : ℕ) (lower : first' ≤ first) where
    still_done : (i : ℕ) → (bridge_at i < u) ⊎ ((bridge_at i ≡ u) × (first ≤ i)) → (bridge_at i < u) ⊎ ((bridge_at i ≡ u) × (first' ≤ i))
    still_done i (inl h) = inl h
    still_done i (inr (h, k)) = inr (h, omega arith)

    -- No half-link more.
    pub visited_so_far : Visited t s u first' at
    visited_so_far =
        record {
          numbers = W.numbers;
          distinct = W.distinct;
          within = W.within;
          done = λ i k. still_done i (W.done i k);
          enough = W.enough;
        }

    -- One half-link more of the bridge, and one hop more at most.
    pub visited_more : (i at' : ℕ) → first' ≤ i → i < first → i < s.half_links → bridge_at i ≡ u → at' ≤ at + 1 → Visited t s u first' at'
    visited_more i at' l h m e a =
        record {
          numbers = i ∷ W.numbers;
          distinct = (λ j k f. new j (W.done j k) f, W.distinct);
          within = λ j k. inside j k;
          done = λ j k. now_done j k;
          enough = omega (arith, W.enough);
        }
      where
        new : (j : ℕ) → (bridge_at j < u) ⊎ ((bridge_at j ≡ u) × (first ≤ j)) → i ≡ j → ⊥
        new j (inl b) f = omega (arith, ap bridge_at f)
        new j (inr (b, k)) f = omega arith

        inside : (j : ℕ) → In j (i ∷ W.numbers) → j < s.half_links
        inside j (inl f) = omega arith
        inside j (inr k) = W.within j k

        now_done : (j : ℕ) → In j (i ∷ W.numbers) → (bridge_at j < u) ⊎ ((bridge_at j ≡ u) × (first' ≤ j))
        now_done j (inl f) = inr (ap bridge_at f ∙ e, omega arith)
        now_done j (inr k) = still_done j (W.done j k)
