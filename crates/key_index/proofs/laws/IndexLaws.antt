-- Laws of the index: finding follows a chain, entering keeps the index. Assumes nothing.
use Rattle.std.specs.Prelude.{ℕ, suc, ◌+◌, ◌-◌, ◌≤◌, ◌<◌, ◌≡◌, refl, List, ◌⊎◌, true, eqb, length, get_or, set, replicate}
use Rattle.std.proofs.Common.{arith, add-one, sym, ap, ◌∙◌, inl, inr, length-set, get_or-set_same, get_or-set_other, eq-eqb, ne_eqb, eqb-true}
use Rattle.std.proofs.lemmas.List.{length-replicate, get_or-replicate}
use Rattle.lists.proofs.laws.NumberLaws.{le_or_gt, same_or_not}
use Rattle.key_index.specs.Places.{last_place}
use Rattle.key_index.proofs.laws.PlaceLaws.{last_none, last-here, last-earlier, last_within, last-passes, last-through, last-same}
use Rattle.key_index.specs.Index.{remainder, key_at, holds, has_remainder, Indexed, InChain, Entered, earlier_place}

-- Finding

-- Every place that holds a key is of the key's chain.
holds-remainder : (s : List ℕ) (key i : ℕ) → holds s key i ≡ true → has_remainder s (remainder key) i ≡ true
holds-remainder s key i h =
    eq-eqb (remainder (key_at s i)) (remainder key) (ap (λ (k : ℕ). remainder k) (eqb-true (key_at s i) key h))

-- The search has come to `place`: what is left to search holds the last place of the key up to `from`.
pub record Following (s : List ℕ) (n key from place : ℕ) : Type 0 where
  pub chain : InChain s n place key
  pub rest : last_place (holds s key) place ≡ last_place (holds s key) from

pub follows : {s : List ℕ} {n key from : ℕ} → InChain s n from key → Following s n key from from
follows h = record { chain = h; rest = refl }

module _ {s : List ℕ} {n key from place : ℕ} (f : Following s n key from place) where
  pub follows-to-none : place ≡ 0 → 0 ≡ last_place (holds s key) from
  follows-to-none e = sym (last_none (holds s key)) ∙ ap (λ (k : ℕ). last_place (holds s key) k) (sym e) ∙ f.rest

  pub follows-to-key : 0 < place → get_or s (511 + place) 0 ≡ key → place ≡ last_place (holds s key) from
  follows-to-key h e = sym (at place (place - 1) (omega arith) e) ∙ f.rest
    where
      at : (p i : ℕ) → p ≡ suc i → get_or s (511 + p) 0 ≡ key → last_place (holds s key) p ≡ p
      at p i e h =
          let k : key_at s i ≡ key = ap (λ (m : ℕ). get_or s m 0) (omega arith) ∙ h
          in rw e (last-here (holds s key) i (eq-eqb (key_at s i) key k))

  module _ (x : Indexed s n) (h : 0 < place) where
    -- The place that the index has after `place` in its chain.
    earlier-place :
        (i : ℕ) → place ≡ suc i → get_or s (1023 + place) 0 ≡ last_place (has_remainder s (remainder key)) i
    earlier-place i e =
        ap (λ (m : ℕ). get_or s m 0) (omega arith) ∙ x.earlier i (omega (arith, f.chain.within))
        ∙ ap (λ (r : ℕ). last_place (has_remainder s r) i) (f.chain.same i e)

    pub follows-less : get_or s (1023 + place) 0 < place
    follows-less = omega (arith, earlier-place (place - 1) (omega arith), last_within (has_remainder s (remainder key)) (place - 1))

    pub follows_on : (get_or s (511 + place) 0 ≡ key → ⊥) → Following s n key from (get_or s (1023 + place) 0)
    follows_on ne =
        record {
          chain = record { within = omega (arith, follows-less, f.chain.within); same = λ j e. same j e };
          rest = passed (place - 1) (omega arith) ∙ f.rest;
        }
      where
        same : (j : ℕ) → get_or s (1023 + place) 0 ≡ suc j → remainder (key_at s j) ≡ remainder key
        same j e =
            eqb-true (remainder (key_at s j)) (remainder key)
            (last-passes (has_remainder s (remainder key)) (place - 1) j (sym (earlier-place (place - 1) (omega arith)) ∙ e))

        passed : (i : ℕ) → place ≡ suc i → last_place (holds s key) (get_or s (1023 + place) 0) ≡ last_place (holds s key) place
        passed i e =
            ap (λ (p : ℕ). last_place (holds s key) p) (earlier-place i e)
            ∙ last-through (holds s key) (has_remainder s (remainder key)) (holds-remainder s key) i
            ∙ sym (rw e (last-earlier (holds s key) i (ne_eqb (key_at s i) key (λ k. ne (ap (λ (m : ℕ). get_or s m 0) (omega arith) ∙ k)))))

-- The chain of a key begins at the last place of its remainder, and the search from there is a search among all.
pub begins :
    {s : List ℕ} {n : ℕ} →
    Indexed s n →
    (key r : ℕ) →
    r ≡ remainder key →
    InChain s n (get_or s r 0) key × (last_place (holds s key) (get_or s r 0) ≡ last_place (holds s key) n)
begins {s} {n} x key r e = (
  record {
    within = omega (arith, first, last_within (has_remainder s (remainder key)) n);
    same = λ i h.
        eqb-true (remainder (key_at s i)) (remainder key) (last-passes (has_remainder s (remainder key)) n i (sym first ∙ h));
  },
  ap (λ (p : ℕ). last_place (holds s key) p) first
      ∙ last-through (holds s key) (has_remainder s (remainder key)) (holds-remainder s key) n,
)
  where
    first : get_or s r 0 ≡ last_place (has_remainder s (remainder key)) n
    first = ap (λ (q : ℕ). get_or s q 0) e ∙ x.last (remainder key) (omega arith)

-- The same from the place that the index has after `place`, for the key that `place` holds.
pub goes_back :
    {s : List ℕ} {n : ℕ} →
    Indexed s n →
    (place : ℕ) →
    0 < place →
    place ≤ n →
    InChain s n (get_or s (1023 + place) 0) (get_or s (511 + place) 0)
    × (last_place (holds s (get_or s (511 + place) 0)) (get_or s (1023 + place) 0) ≡ earlier_place s place)
goes_back {s} {n} x place h l = rw (let e : place ≡ suc (place - 1) = omega arith in e) (at (place - 1) (omega arith))
  where
    at :
        (i : ℕ) →
        suc i ≤ n →
        InChain s n (get_or s (1023 + suc i) 0) (get_or s (511 + suc i) 0)
        × (last_place (holds s (get_or s (511 + suc i) 0)) (get_or s (1023 + suc i) 0) ≡ earlier_place s (suc i))
    at i l =
        let k : 511 + suc i ≡ 512 + i = omega arith
        in let m : 1023 + suc i ≡ 1024 + i = omega arith
        in rw (k, m) (
          record {
            within = omega (arith, x.earlier i l, last_within (has_remainder s (remainder (key_at s i))) i);
            same = λ j e.
                eqb-true (remainder (key_at s j)) (remainder (key_at s i))
                (last-passes (has_remainder s (remainder (key_at s i))) i j (sym (x.earlier i l) ∙ e));
          },
          ap (λ (p : ℕ). last_place (holds s (key_at s i)) p) (x.earlier i l)
              ∙ last-through (holds s (key_at s i)) (has_remainder s (remainder (key_at s i))) (holds-remainder s (key_at s i)) i,
        )

-- Entering

-- The list of an index of no key.
pub no_keys : (s : List ℕ) → length s ≡ 1536 → ((r : ℕ) → r < 512 → get_or s r 0 ≡ 0) → Indexed s 0
no_keys s e z =
    record {
      size = e;
      few = omega arith;
      last = λ r l. z r l ∙ sym (last_none (has_remainder s r));
      earlier = λ i l. absurd (omega arith);
    }

pub no_keys_yet : Indexed (replicate 1536 0) 0
no_keys_yet =
    no_keys (replicate 1536 0) (length-replicate {A = ℕ} 1536 0) (λ r l. get_or-replicate {A = ℕ} 1536 r 0 0 (omega arith))

-- The list `s` with the key, the last place of its remainder and the new last place stored.
abbrev pub stored : List ℕ → ℕ → ℕ → List ℕ
stored s n key = set (set (set s (1024 + n) (get_or s (remainder key) 0)) (512 + n) key) (remainder key) (n + 1)

module _ {s : List ℕ} {n : ℕ} (x : Indexed s n) (room : n < 512) (key : ℕ) where
  abbrev t : List ℕ
  t = stored s n key

  stored-size : length t ≡ 1536
  stored-size = simp length-set x.size

  stored-key : key_at t n ≡ key
  stored-key =
      get_or-set_other (set (set s (1024 + n) (get_or s (remainder key) 0)) (512 + n) key) (remainder key) (512 + n) (n + 1) 0 (omega arith)
      ∙ get_or-set_same (set s (1024 + n) (get_or s (remainder key) 0)) (512 + n) key 0 (simp length-set (omega (arith, x.size)))

  stored-earlier : get_or t (1024 + n) 0 ≡ get_or s (remainder key) 0
  stored-earlier =
      get_or-set_other (set (set s (1024 + n) (get_or s (remainder key) 0)) (512 + n) key) (remainder key) (1024 + n) (n + 1) 0 (omega arith)
      ∙ get_or-set_other (set s (1024 + n) (get_or s (remainder key) 0)) (512 + n) (1024 + n) key 0 (omega arith)
      ∙ get_or-set_same s (1024 + n) (get_or s (remainder key) 0) 0 (omega (arith, x.size))

  stored_last : get_or t (remainder key) 0 ≡ n + 1
  stored_last =
      get_or-set_same (set (set s (1024 + n) (get_or s (remainder key) 0)) (512 + n) key) (remainder key) (n + 1) 0
      (simp length-set (omega (arith, x.size)))

  stored_other :
      (j : ℕ) → (j ≡ 1024 + n → ⊥) → (j ≡ 512 + n → ⊥) → (j ≡ remainder key → ⊥) → get_or t j 0 ≡ get_or s j 0
  stored_other j a b c =
      get_or-set_other (set (set s (1024 + n) (get_or s (remainder key) 0)) (512 + n) key) (remainder key) j (n + 1) 0 c
      ∙ get_or-set_other (set s (1024 + n) (get_or s (remainder key) 0)) (512 + n) j key 0 b
      ∙ get_or-set_other s (1024 + n) j (get_or s (remainder key) 0) 0 a

  stored_keeps : (i : ℕ) → i < n → key_at t i ≡ key_at s i
  stored_keeps i l = stored_other (512 + i) (omega arith) (omega arith) (omega arith)

  -- Below the new place nothing of a chain has changed.
  chains_kept : (r m : ℕ) → m ≤ n → last_place (has_remainder s r) m ≡ last_place (has_remainder t r) m
  chains_kept r m l =
      last-same (has_remainder s r) (has_remainder t r) m λ i h.
      ap (λ (k : ℕ). eqb (remainder k) r) (sym (stored_keeps i (omega arith)))

  last_of : (r : ℕ) → r < 512 → (r ≡ remainder key) ⊎ (r ≡ remainder key → ⊥) → get_or t r 0 ≡ last_place (has_remainder t r) (suc n)
  last_of r l (inl e) =
      ap (λ (m : ℕ). get_or t m 0) e ∙ stored_last ∙ add-one n
      ∙ sym (last-here (has_remainder t r) n (eq-eqb (remainder (key_at t n)) r (ap (λ (k : ℕ). remainder k) stored-key ∙ sym e)))
  last_of r l (inr ne) =
      stored_other r (omega arith) (omega arith) ne ∙ x.last r l ∙ chains_kept r n (omega arith)
      ∙ sym (last-earlier (has_remainder t r) n
      (ne_eqb (remainder (key_at t n)) r (λ e. ne (sym e ∙ ap (λ (k : ℕ). remainder k) stored-key))))

  earlier_of :
      (i : ℕ) → i < n + 1 → (n ≤ i) ⊎ (i < n) → get_or t (1024 + i) 0 ≡ last_place (has_remainder t (remainder (key_at t i))) i
  earlier_of i h (inr l) =
      stored_other (1024 + i) (omega arith) (omega arith) (omega arith) ∙ x.earlier i l
      ∙ chains_kept (remainder (key_at s i)) i (omega arith)
      ∙ ap (λ (k : ℕ). last_place (has_remainder t (remainder k)) i) (sym (stored_keeps i l))
  earlier_of i h (inl l) = at i (omega arith)
    where
      at : (j : ℕ) → j ≡ n → get_or t (1024 + j) 0 ≡ last_place (has_remainder t (remainder (key_at t j))) j
      at j e =
          ap (λ (k : ℕ). get_or t (1024 + k) 0) e ∙ stored-earlier ∙ x.last (remainder key) (omega arith)
          ∙ chains_kept (remainder key) n (omega arith)
          ∙ ap (λ (k : ℕ). last_place (has_remainder t (remainder k)) n) (sym stored-key)
          ∙ ap (λ (k : ℕ). last_place (has_remainder t (remainder (key_at t k))) k) (sym e)

  entered : Entered s t n key
  entered =
      record {
        indexed =
            record {
              size = stored-size;
              few = omega arith;
              last =
                  λ r l.
                  last_of r l (same_or_not r (remainder key)) ∙ ap (λ (m : ℕ). last_place (has_remainder t r) m) (sym (add-one n));
              earlier = λ i l. earlier_of i l (le_or_gt n i);
            };
        new = stored-key;
        kept = stored_keeps;
      }

  pub entered_in : (r : ℕ) → r ≡ remainder key → Entered s (set (set (set s (1024 + n) (get_or s r 0)) (512 + n) key) r (n + 1)) n key
  entered_in r e = rw e entered
