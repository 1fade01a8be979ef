-- Laws of the records of a kind by their positions: how many, each of them, one more, and a search among them. Assumes nothing.
use Prim.Native.Nat.{ℕ, zero, suc, ◌+◌, ◌*◌, ◌-◌, ◌≤◌, ◌<◌}
use native.Mathlib.Omega.{arith}
use Rattle.std.proofs.Common.{add-one, sym, ◌∙◌, subst, inl, inr}
use Rattle.std.specs.Prelude.{◌≡◌, Bool, true, false, ◌⊎◌, length, drop, get_or}
use Rattle.std.proofs.Math.Path.{refl, ap}
use mathlib.Core.List.{List, [], ◌∷◌, ◌++◌, map, map-append}
use Rattle.std.proofs.Math.Option.{Option, none, some}
use Rattle.std.proofs.Math.ListN.{get_elem?, length-map}
use Rattle.lists.specs.Lists.{rising, any_passes, selected}
use Rattle.lists.specs.Members.{In, EveryTwo}
use Rattle.lists.proofs.laws.NumberLaws.{le_or_gt}
use Rattle.lists.proofs.laws.MemberLaws.{in_map, map-in, map_at}
use Rattle.lists.proofs.laws.SelectedLaws.{any-map, in-rising, rising-in, rising-at, length-rising}
use Rattle.lists.proofs.laws.Searching.{Searching, search_on, search_finds, search_ends, rising-more}
use Rattle.table.specs.Positions.{record_at, records_at}

-- A relation along the values of rising numbers.
every-two-rising :
    {A : Type 0} (f : ℕ → A) (R : A → A → Type 0) (k n : ℕ) →
    EveryTwo R (map f (rising k n)) →
    (i j : ℕ) →
    k ≤ i →
    i < j →
    j < k + n →
    R (f i) (f j)
unfolding rising
every-two-rising f R k zero P i j h l m = absurd (omega arith)
every-two-rising f R k (suc n) P i j h l m = go (le_or_gt i k) (every-two-rising f R (suc k) n P.1 i j)
  where
    go : (i ≤ k) ⊎ (k < i) → (suc k ≤ i → i < j → j < suc k + n → R (f i) (f j)) → R (f i) (f j)
    go (inl e) ih =
        let z : k ≡ i = omega arith
        in subst (λ (x : ℕ). R (f x) (f j)) z
        (P.0 (f j) (in_map f j (rising (suc k) n) (in-rising (suc k) n j (omega arith) (omega arith))))
    go (inr e) ih = ih e l (omega arith)

module _ {A : Type 0} (decoded : List ℕ → A) (width from : ℕ) (ws : List ℕ) where
  pub no_records_lem : records_at decoded width from ws 0 ≡ []
  unfolding records_at rising
  no_records_lem = refl

  pub one_more :
      (n : ℕ) → records_at decoded width from ws (n + 1) ≡ records_at decoded width from ws n ++ (record_at decoded width from ws n ∷ [])
  unfolding records_at
  one_more n =
      ap (λ (k : ℕ). map (record_at decoded width from ws) (rising 0 k)) (add-one n)
      ∙ ap (map (record_at decoded width from ws)) (rising-more 0 n)
      ∙ map-append (record_at decoded width from ws) (rising 0 n) ((0 + n) ∷ [])
      ∙ ap (λ (k : ℕ). map (record_at decoded width from ws) (rising 0 n) ++ (record_at decoded width from ws k ∷ [])) (omega arith)

  pub how_many : (n : ℕ) → length (records_at decoded width from ws n) ≡ n
  unfolding records_at
  how_many n = length-map (rising 0 n) (record_at decoded width from ws) ∙ length-rising 0 n

  pub record-at : (n i : ℕ) (d : A) → i < n → get_or (records_at decoded width from ws n) i d ≡ record_at decoded width from ws i
  unfolding records_at
  record-at n i d l =
      map_at (record_at decoded width from ws) (rising 0 n) i 0 d (omega (arith, length-rising 0 n))
      ∙ ap (record_at decoded width from ws) (rising-at 0 n i 0 l ∙ omega arith)

  pub search_records : (test : A → Bool) (n : ℕ) → any_passes test (records_at decoded width from ws n) ≡ any_passes (λ i. test (record_at decoded width from ws i)) (rising 0 n)
  unfolding records_at
  search_records test n = any-map (record_at decoded width from ws) test (rising 0 n)

  pub record-in : (n i : ℕ) → i < n → In (record_at decoded width from ws i) (records_at decoded width from ws n)
  unfolding records_at
  record-in n i l = in_map (record_at decoded width from ws) i (rising 0 n) (in-rising 0 n i (omega arith) (omega arith))

  pub in-records :
      (n : ℕ) (x : A) → In x (records_at decoded width from ws n) → (i : ℕ) × (i < n) × (x ≡ record_at decoded width from ws i)
  unfolding records_at
  in-records n x h =
      let (i, k, e) = map-in (record_at decoded width from ws) x (rising 0 n) h
      in (i, omega (arith, (rising-in 0 n i k).1), e)

  pub every-two-records :
      (R : A → A → Type 0) (n : ℕ) →
      EveryTwo R (records_at decoded width from ws n) →
      (i j : ℕ) →
      i < j →
      j < n →
      R (record_at decoded width from ws i) (record_at decoded width from ws j)
  unfolding records_at
  every-two-records R n P i j l m = every-two-rising (record_at decoded width from ws) R 0 n P i j (omega arith) l (omega arith)

  -- Of no records it does not matter where they would stand.
  pub none_anywhere :
      (other : ℕ) (n : ℕ) → n ≡ 0 → records_at decoded width from ws n ≡ records_at decoded width other ws n
  unfolding records_at rising
  none_anywhere other n e = rw e refl

-- A search among the first `n` records has come to the record `j`: `v` was read at the word `at`, and `b` is what testing it gave.
module _ {A : Type 0} (decoded : List ℕ → A) (width from : ℕ) (ws : List ℕ) (test : A → Bool) where
  abbrev pub SearchingRecords : ℕ → ℕ → Type 0
  SearchingRecords n j = Searching (λ k. test (record_at decoded width from ws k)) n j

  module _ {n j : ℕ} (s : SearchingRecords n j) where
    tested :
        (at : ℕ) (v : A) (b c : Bool) →
        at ≡ from + width * j →
        v ≡ decoded (drop at ws) →
        b ≡ test v →
        b ≡ c →
        test (record_at decoded width from ws j) ≡ c
    tested at v b c e f g h = ap (λ (k : ℕ). test (decoded (drop k ws))) (sym e) ∙ ap test (sym f) ∙ sym g ∙ h

    pub record-passed :
        (at : ℕ) (v : A) (b : Bool) →
        j < n →
        at ≡ from + width * j →
        v ≡ decoded (drop at ws) →
        b ≡ test v →
        b ≡ false →
        SearchingRecords n (j + 1)
    record-passed at v b l e f g h = search_on s l (tested at v b false e f g h)

    pub record-found :
        (at : ℕ) (v : A) (b : Bool) →
        j < n →
        at ≡ from + width * j →
        v ≡ decoded (drop at ws) →
        b ≡ test v →
        b ≡ true →
        true ≡ any_passes test (records_at decoded width from ws n)
    record-found at v b l e f g h =
        search_finds s l (tested at v b true e f g h) ∙ sym (search_records decoded width from ws test n)

    pub no_record-found : n ≤ j → false ≡ any_passes test (records_at decoded width from ws n)
    no_record-found l = search_ends s l ∙ sym (search_records decoded width from ws test n)

-- The first of `n` records that passes a test is sought one after the other: what is left from the record `j` on has it where the
-- whole has.
module _ {A : Type 0} (decoded : List ℕ → A) (width from : ℕ) (ws : List ℕ) (test : A → Bool) where
  unfoldable pub first_from : ℕ → ℕ → Option A
  first_from j k = get_elem? (selected test (map (record_at decoded width from ws) (rising j k))) 0

  pub record SeekingRecord (n j : ℕ) : Type 0 where
    pub within : j ≤ n
    pub rest : first_from j (n - j) ≡ get_elem? (selected test (records_at decoded width from ws n)) 0

  pub seeking_starts : (n : ℕ) → SeekingRecord n 0
  unfolding first_from records_at
  seeking_starts n = record { within = omega arith; rest = ap (first_from 0) (omega arith) }

  from_here : (n j : ℕ) → j < n → first_from j (n - j) ≡ get_elem? (selected test (record_at decoded width from ws j ∷ map (record_at decoded width from ws) (rising (j + 1) (n - (j + 1))))) 0
  unfolding first_from rising
  from_here n j h = rw (let e : n - j ≡ suc (n - (j + 1)) = omega arith in e, let f : j + 1 ≡ suc j = omega arith in f) refl

  module _ {n j : ℕ} (s : SeekingRecord n j) (at : ℕ) (v : A) (h : j < n) (e : at ≡ from + width * j) (f : v ≡ decoded (drop at ws)) where
    here_is : record_at decoded width from ws j ≡ v
    here_is = ap (λ (k : ℕ). decoded (drop k ws)) (sym e) ∙ sym f

    pub seeking_on : test v ≡ false → SeekingRecord n (j + 1)
    unfolding first_from selected
    seeking_on g = record { within = omega arith; rest = rw (ap test here_is ∙ g) at (sym (from_here n j h)) ∙ s.rest }

    pub seeking_finds : test v ≡ true → some v ≡ get_elem? (selected test (records_at decoded width from ws n)) 0
    unfolding selected
    seeking_finds g = ap some (sym here_is) ∙ rw (ap test here_is ∙ g) at (sym (from_here n j h)) ∙ s.rest

  pub seeking_ends : {n j : ℕ} → SeekingRecord n j → n ≤ j → none ≡ get_elem? (selected test (records_at decoded width from ws n)) 0
  unfolding first_from selected rising
  seeking_ends {n} {j} s h = rw (let e : n - j ≡ 0 = omega arith in e) at s.rest
