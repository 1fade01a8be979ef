-- Laws of numbers appended to a lent list, and what a loop of functions that append keeps true. Assumes nothing.
use Rattle.std.specs.Prelude.{ℕ, zero, suc, ◌+◌, ◌*◌, ◌-◌, ◌≤◌, ◌<◌, ◌≡◌, refl, length, set, take, drop}
use native.Mathlib.Omega.{arith}
use Rattle.std.proofs.Common.{mul-le-mul_left, sym, subst, ◌∙◌, length-append}
use Rattle.std.proofs.Math.Path.{ap}
use mathlib.Core.List.{List, [], ◌∷◌, ◌++◌, flat_map, append-nil, append_assoc}
use Rattle.std.proofs.Math.Seq.{take-append_seam}
use Rattle.lists.specs.Lists.{rising, spliced}
use Rattle.lists.proofs.laws.Splices.{length-spliced, spliced-nothing, spliced-next, spliced_twice}
use Rattle.lists.specs.Appending.{Appended, Room, each_of}

pub appended-length : {lent part written : List ℕ} {at end : ℕ} → Appended lent at part written end → Room lent at part → length written ≡ length lent
appended-length {lent} {part} {written} {at} A r = ap (λ (t : List ℕ). length t) A.words_are ∙ length-spliced lent at part r

pub appended_nothing : (lent : List ℕ) (at : ℕ) → Appended lent at [] lent at
appended_nothing lent at = record { words_are = sym (spliced-nothing lent at); end_is = omega arith }

pub appended-both : {lent part written more last : List ℕ} {at end end' : ℕ} → Appended lent at part written end → Appended written end more last end'
    → Room lent at part → Appended lent at (part ++ more) last end'
appended-both {lent} {part} {written} {more} {last} {at} {end} A B r = record {
  words_are =
      B.words_are
      ∙ ap (λ (t : List ℕ). spliced t end more) A.words_are
      ∙ ap (λ (k : ℕ). spliced (spliced lent at part) k more) A.end_is
      ∙ spliced_twice lent at part more r;
  end_is = omega (arith, A.end_is, B.end_is, length-append part more);
}

-- What was appended from the front on is the front.
pub front_is : {lent part written : List ℕ} {end : ℕ} → Appended lent 0 part written end → take end written ≡ part
front_is {lent} {part} {written} {end} A =
    ap (take end) A.words_are ∙ ap (λ (k : ℕ). take k (spliced lent 0 part)) (A.end_is ∙ none) ∙ take-append_seam part (drop (0 + length part) lent)
  where
    none : 0 + length part ≡ length part
    none = omega arith

-- One word, and more of them written one after the other.
pub one_word : (lent : List ℕ) (at a : ℕ) → at < length lent → Appended lent at (a ∷ []) (set lent at a) (at + 1)
one_word lent at a l = record {
  words_are =
      ap (λ (t : List ℕ). set t at a) (sym (spliced-nothing lent at)) ∙ ap (λ (k : ℕ). set (spliced lent at []) k a) here
      ∙ spliced-next lent at [] a (omega arith);
  end_is = refl;
}
  where
    here : at ≡ at + 0
    here = omega arith

pub next_word : {lent part written : List ℕ} {at end : ℕ} (a k : ℕ) → Appended lent at part written end → k ≡ end → at + length part < length lent
    → Appended lent at (part ++ (a ∷ [])) (set written k a) (k + 1)
next_word {lent} {part} {written} {at} {end} a k A e r = record {
  words_are =
      ap (λ (t : List ℕ). set t k a) A.words_are
      ∙ ap (λ (i : ℕ). set (spliced lent at part) i a) (e ∙ A.end_is)
      ∙ spliced-next lent at part a r;
  end_is = omega (arith, A.end_is, length-append part (a ∷ []));
}

-- The place after them under another name.
ended : {lent part written : List ℕ} {at end : ℕ} (k : ℕ) → k ≡ end → Appended lent at part written end → Appended lent at part written k
ended k e A = record { words_are = A.words_are; end_is = e ∙ A.end_is }

pub two-words : (lent : List ℕ) (at a b : ℕ) → at + 2 ≤ length lent → Appended lent at (a ∷ b ∷ []) (set (set lent at a) (at + 1) b) (at + 2)
two-words lent at a b r = ended (at + 2) (omega arith) (next_word b (at + 1) (one_word lent at a (omega arith)) refl (omega arith))

pub three-words : (lent : List ℕ) (at a b c : ℕ) → at + 3 ≤ length lent
    → Appended lent at (a ∷ b ∷ c ∷ []) (set (set (set lent at a) (at + 1) b) (at + 2) c) (at + 3)
three-words lent at a b c r = ended (at + 3) (omega arith) (next_word c (at + 2) (two-words lent at a b (omega arith)) refl (omega arith))

pub four-words : (lent : List ℕ) (at a b c d : ℕ) → at + 4 ≤ length lent
    → Appended lent at (a ∷ b ∷ c ∷ d ∷ []) (set (set (set (set lent at a) (at + 1) b) (at + 2) c) (at + 3) d) (at + 4)
four-words lent at a b c d r = ended (at + 4) (omega arith) (next_word d (at + 3) (three-words lent at a b c (omega arith)) refl (omega arith))

-- The loop has come to `j`.
pub record Appending (f : ℕ → List ℕ) (n : ℕ) (lent : List ℕ) (at j : ℕ) (written : List ℕ) (end : ℕ) : Type 0 where
  pub within : j ≤ n
  pub room : Room lent at (each_of f n)
  pub so_far : List ℕ
  pub split : each_of f n ≡ so_far ++ flat_map f (rising j (n - j))
  pub appended : Appended lent at so_far written end

pub appending_starts : (f : ℕ → List ℕ) (n : ℕ) (lent : List ℕ) (at : ℕ) → Room lent at (each_of f n) → Appending f n lent at 0 lent at
appending_starts f n lent at r =
    let e : n ≡ n - 0 = omega arith in record {
      within = omega arith;
      room = r;
      so_far = [];
      split = ap (λ (k : ℕ). flat_map f (rising 0 k)) e;
      appended = appended_nothing lent at;
    }

next_of : (f : ℕ → List ℕ) (n j : ℕ) → j < n → flat_map f (rising j (n - j)) ≡ f j ++ flat_map f (rising (j + 1) (n - (j + 1)))
unfolding flat_map rising
next_of f n j l = rw (let e : n - j ≡ suc (n - (j + 1)) = omega arith in e, let g : j + 1 ≡ suc j = omega arith in g) refl

module _ {f : ℕ → List ℕ} {n : ℕ} {lent : List ℕ} {at j : ℕ} {written : List ℕ} {end : ℕ} (A : Appending f n lent at j written end) where
  more-split : j < n → each_of f n ≡ (A.so_far ++ f j) ++ flat_map f (rising (j + 1) (n - (j + 1)))
  more-split l =
      A.split ∙ ap (λ (t : List ℕ). A.so_far ++ t) (next_of f n j l)
      ∙ sym (append_assoc A.so_far (f j) (flat_map f (rising (j + 1) (n - (j + 1)))))

  room_so_far : Room lent at A.so_far
  room_so_far = omega (arith, A.room, ap (λ (t : List ℕ). length t) A.split, length-append A.so_far (flat_map f (rising j (n - j))))

  pub appending_length : length written ≡ length lent
  appending_length = appended-length A.appended room_so_far

  -- The words for `j` have room.
  pub appending_room : j < n → Room written end (f j)
  appending_room l = omega (
    arith,
    A.room,
    appending_length,
    A.appended.end_is,
    ap (λ (t : List ℕ). length t) (more-split l),
    length-append (A.so_far ++ f j) (flat_map f (rising (j + 1) (n - (j + 1)))),
    length-append A.so_far (f j),
  )

  pub appending_goes_on : j < n → {written' : List ℕ} {end' : ℕ} → Appended written end (f j) written' end'
      → Appending f n lent at (j + 1) written' end'
  appending_goes_on l B = record {
    within = omega arith;
    room = A.room;
    so_far = A.so_far ++ f j;
    split = more-split l;
    appended = appended-both A.appended B room_so_far;
  }

  pub appending_passes : j < n → f j ≡ [] → Appending f n lent at (j + 1) written end
  appending_passes l e = appending_goes_on l (rw e (appended_nothing written end))

  pub appending_ends : n ≤ j → Appended lent at (each_of f n) written end
  unfolding flat_map rising
  appending_ends l = rw (sym (A.split ∙ ap (λ (k : ℕ). A.so_far ++ flat_map f (rising j k)) z ∙ append-nil A.so_far)) at A.appended
    where
      z : n - j ≡ 0
      z = omega arith

-- The same for parts of at most `most` words each, whose lengths are not known before they are written: the loop has come to `j`.
pub record AppendingFew (f : ℕ → List ℕ) (most n : ℕ) (lent : List ℕ) (at j : ℕ) (written : List ℕ) (end : ℕ) : Type 0 where
  pub within : j ≤ n
  pub few : end ≤ at + most * j
  pub same_length : length written ≡ length lent
  pub appended : Appended lent at (each_of f j) written end

pub few-starts : (f : ℕ → List ℕ) (most n : ℕ) (lent : List ℕ) (at : ℕ) → AppendingFew f most n lent at 0 lent at
unfolding flat_map rising
few-starts f most n lent at =
    record { within = omega arith; few = omega arith; same_length = refl; appended = appended_nothing lent at }

pub each_more : {A : Type 0} (f : ℕ → List A) (k j : ℕ) → flat_map f (rising k (suc j)) ≡ flat_map f (rising k j) ++ f (k + j)
unfolding flat_map rising
each_more f k zero = append-nil (f k) ∙ ap f (let z : k ≡ k + 0 = omega arith in z)
each_more {A} f k (suc j) =
    ap (λ (t : List A). f k ++ t) (each_more f (suc k) j ∙ ap (λ (i : ℕ). flat_map f (rising (suc k) j) ++ f i) (let z : suc k + j ≡ k + suc j = omega arith in z))
    ∙ sym (append_assoc (f k) (flat_map f (rising (suc k) j)) (f (k + suc j)))

module _ {f : ℕ → List ℕ} {most n : ℕ} {lent : List ℕ} {at j : ℕ} {written : List ℕ} {end : ℕ} (A : AppendingFew f most n lent at j written end) (room : at + most * n ≤ length lent) where
  -- The part of `j` has room.
  pub few-room : j < n → end + most ≤ length written
  few-room l = omega (arith, A.few, A.same_length, mul-le-mul_left most (let z : suc j ≤ n = omega arith in z))

  pub few_goes_on : j < n → {written' : List ℕ} {end' : ℕ} → Appended written end (f j) written' end' → end' ≤ end + most
      → AppendingFew f most n lent at (j + 1) written' end'
  few_goes_on l {written'} {end'} B m = record {
    within = omega arith;
    few = omega (arith, A.few, let z : most * (j + 1) ≡ most * j + most = omega arith in z);
    same_length = appended-length B (omega (arith, B.end_is, few-room l)) ∙ A.same_length;
    appended = subst (λ (t : List ℕ). Appended lent at t written' end') one_more (appended-both A.appended B (omega (arith, A.appended.end_is, few-room l, A.same_length)));
  }
    where
      one_more : each_of f j ++ f j ≡ each_of f (j + 1)
      one_more =
          ap (λ (i : ℕ). each_of f j ++ f i) (let z : j ≡ 0 + j = omega arith in z)
          ∙ sym (each_more f 0 j)
          ∙ ap (each_of f) (let z : suc j ≡ j + 1 = omega arith in z)

  pub few-ends : n ≤ j → Appended lent at (each_of f n) written end × (end ≤ at + most * n)
  few-ends l = let e : j ≡ n = omega (arith, A.within) in (subst (λ (k : ℕ). Appended lent at (each_of f k) written end) e A.appended, omega (arith, A.few, ap (λ (k : ℕ). most * k) e))
