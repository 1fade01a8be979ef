-- Digits written from the last to the first, and the places of a number counted. Assumes nothing.
use Rattle.std.specs.Prelude.{ℕ, zero, suc, ◌+◌, ◌-◌, ◌/◌, ◌%◌, ◌≤◌, ◌<◌, ◌≡◌, refl, List, [], ◌∷◌, ◌++◌, Bool, true, false, cond, ltb, length, get_or, take, drop, set}
use Rattle.std.proofs.Common.{arith, sym, ap, subst, ◌∙◌, length-append, length-set, drop_of_length-le, take-suc, take-take, take_at, take_all, drop-cons, lt-ltb, le-ltb}
use Rattle.lists.specs.Lists.{spliced}
use Rattle.lists.proofs.laws.DistinctLaws.{same-last}
use Rattle.lists.proofs.laws.Splices.{spliced-nothing, spliced-before}
use Rattle.text.specs.Text.{digit, digits_of, places, decimal_of, WrittenAt}

pub low_digit : (d : ℕ) → d < 10 → 48 + d ≡ digit d
low_digit d h = simp (lt-ltb d 10 h)

pub high_digit : (d : ℕ) → 10 ≤ d → 87 + d ≡ digit d
high_digit d h = simp (le-ltb d 10 h)

pub length_digits : (base k n : ℕ) → length (digits_of base k n) ≡ k
unfolding digits_of
length_digits base zero n = refl
length_digits base (suc k) n =
    length-append (digits_of base k (n / base)) (digit (n % base) ∷ [])
    ∙ ap (λ (m : ℕ). m + 1) (length_digits base k (n / base))
    ∙ omega arith

module _ (base n count : ℕ) (before : List ℕ) (at : ℕ) where
  abbrev whole : List ℕ
  whole = digits_of base count n

  -- The digits from `left` on are written, and those before them are the digits of what is left of the number.
  pub record Spelling (out : List ℕ) (rest left : ℕ) : Type 0 where
    pub within : left ≤ count
    pub same_length : length out ≡ length before
    pub front : take left whole ≡ digits_of base left rest
    pub written : out ≡ spliced before (at + left) (drop left whole)

  pub spelling_starts : Spelling before n count
  spelling_starts =
      record {
        within = omega arith;
        same_length = refl;
        front = take_all count whole (omega (arith, length_digits base count n));
        written =
            sym (spliced-nothing before (at + count))
            ∙ ap (spliced before (at + count)) (sym (drop_of_length-le whole {i = count} (omega (arith, length_digits base count n))));
      }

  module _ (k rest : ℕ) (front : take (suc k) whole ≡ digits_of base (suc k) rest) (within : suc k ≤ count) where
    inside : k < length whole
    inside = omega (arith, length_digits base count n)

    by_last : take (suc k) whole ≡ digits_of base k (rest / base) ++ (digit (rest % base) ∷ [])
    unfolding digits_of
    by_last = front

    shorter : take k whole ≡ digits_of base k (rest / base)
    shorter =
        sym (take-take k (suc k) whole (omega arith))
        ∙ ap (λ (t : List ℕ). take k t) by_last
        ∙ take_at (digits_of base k (rest / base)) (digit (rest % base) ∷ []) k (length_digits base k (rest / base))

    last_digit : get_or whole k 0 ≡ digit (rest % base)
    last_digit =
        same-last (take k whole) (digits_of base k (rest / base)) (get_or whole k 0) (digit (rest % base)) (sym (take-suc whole k 0 inside) ∙ by_last)

    longer : drop k whole ≡ digit (rest % base) ∷ drop (suc k) whole
    longer = drop-cons whole k 0 inside ∙ ap (λ (d : ℕ). d ∷ drop (suc k) whole) last_digit

  pub spelling_goes_on :
      {out : List ℕ} {rest left : ℕ} →
      at + count ≤ length before →
      Spelling out rest left →
      (k d rest' : ℕ) →
      left ≡ suc k →
      d ≡ digit (rest % base) →
      rest' ≡ rest / base →
      Spelling (set out (at + k) d) rest' k
  spelling_goes_on {out} {rest} {left} room S k d rest' e f g =
      record {
        within = omega (arith, S.within);
        same_length = length-set out (at + k) d ∙ S.same_length;
        front = shorter k rest front_is inside_is ∙ ap (digits_of base k) (sym g);
        written =
            ap (λ (t : List ℕ). set t (at + k) d) S.written
            ∙ ap (λ (m : ℕ). set (spliced before (at + m) (drop m whole)) (at + k) d) e
            ∙ spliced-before before (at + suc k) (drop (suc k) whole) d (at + k) (omega arith) (omega (arith, S.within))
            ∙ ap (λ (x : ℕ). spliced before (at + k) (x ∷ drop (suc k) whole)) f
            ∙ ap (spliced before (at + k)) (sym (longer k rest front_is inside_is));
      }
    where
      inside_is : suc k ≤ count
      inside_is = omega (arith, S.within)

      front_is : take (suc k) whole ≡ digits_of base (suc k) rest
      front_is = subst (λ (m : ℕ). take m whole ≡ digits_of base m rest) e S.front

  pub spelling_ends : {out : List ℕ} {rest left : ℕ} → Spelling out rest left → left ≤ 0 → out ≡ spliced before at (digits_of base count n)
  spelling_ends {out} {rest} {left} S h = S.written ∙ ap (λ (m : ℕ). spliced before (at + m) (drop m whole)) none ∙ ap (λ (m : ℕ). spliced before m whole) start
    where
      none : left ≡ 0
      none = omega arith

      start : at + 0 ≡ at
      start = omega arith

-- Places

few-places : (more n : ℕ) → n < 10 → places more n ≡ 1
unfolding places
few-places zero n h = refl
few-places (suc more) n h = simp (lt-ltb n 10 h)

more-places : (more n : ℕ) → 10 ≤ n → places (suc more) n ≡ suc (places more (n / 10))
unfolding places
more-places more n h = simp (le-ltb n 10 h)

no_more-places : (n : ℕ) → places 0 n ≡ 1
unfolding places
no_more-places n = refl

most-places : (more n : ℕ) → places more n ≤ suc more
unfolding places
most-places zero n = omega arith
most-places (suc more) n = go (ltb n 10) (most-places more (n / 10))
  where
    go : (b : Bool) → places more (n / 10) ≤ suc more → cond b 1 (suc (places more (n / 10))) ≤ suc (suc more)
    go true h = omega arith
    go false h = omega arith

-- `count` places were counted, and what is left of the number has the others.
pub record Counting (n count rest : ℕ) : Type 0 where
  pub least : 1 ≤ count
  pub most : count ≤ 10
  pub ahead : places (10 - count) rest + count ≡ places 9 n + 1

pub counting_starts : (n : ℕ) → Counting n 1 n
counting_starts n = record { least = omega arith; most = omega arith; ahead = refl }

module _ {n count rest : ℕ} (C : Counting n count rest) where
  pub counting_goes_on : count < 10 → 10 ≤ rest → Counting n (count + 1) (rest / 10)
  counting_goes_on h l =
      record {
        least = omega arith;
        most = omega arith;
        ahead =
            omega (
              arith,
              C.ahead,
              ap (λ (k : ℕ). places k rest) (let z : 10 - count ≡ suc (10 - (count + 1)) = omega arith in z),
              more-places (10 - (count + 1)) rest l,
            );
      }

  pub counting_finds : rest < 10 → count ≡ places 9 n
  counting_finds h = omega (arith, C.ahead, few-places (10 - count) rest h)

  pub counting_ends : 10 ≤ count → count ≡ places 9 n
  counting_ends h =
      omega (arith, C.ahead, C.most, ap (λ (k : ℕ). places k rest) (let z : 10 - count ≡ 0 = omega (arith, C.most) in z), no_more-places rest)

pub places_of : (n : ℕ) → places 9 n ≤ 10
places_of n = most-places 9 n

pub length-decimal_of : (n : ℕ) → length (decimal_of n) ≤ 10
unfolding decimal_of
length-decimal_of n = omega (arith, length_digits 10 (places 9 n) n, most-places 9 n)

-- The digits of a number written from `at` on.
pub decimal_of-written :
    {at : ℕ} {before after : List ℕ} (n count next : ℕ) →
    count ≡ places 9 n →
    after ≡ spliced before at (digits_of 10 count n) →
    next ≡ at + count →
    WrittenAt at before after (decimal_of n) next
unfolding decimal_of
decimal_of-written {at} {before} {after} n count next e w h =
    record {
      end_is = h ∙ ap (λ (k : ℕ). at + k) (e ∙ sym (length_digits 10 (places 9 n) n));
      words_are = w ∙ ap (λ (k : ℕ). spliced before at (digits_of 10 k n)) e;
    }

pub address-written :
    {at : ℕ} {before after : List ℕ} (n next : ℕ) →
    after ≡ spliced before at (digits_of 16 12 n) →
    next ≡ at + 12 →
    WrittenAt at before after (digits_of 16 12 n) next
address-written {at} n next w h =
    record { end_is = h ∙ ap (λ (k : ℕ). at + k) (sym (length_digits 16 12 n)); words_are = w }
