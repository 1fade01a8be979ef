-- Laws of a list with a part of it written anew (`spliced`): its length, one place more, and what is read of it afterwards.
-- Assumes nothing.
use Rattle.std.specs.Prelude.{ℕ, suc, ◌+◌, ◌-◌, ◌≤◌, ◌<◌, ◌≡◌, List, [], ◌∷◌, ◌++◌, length, get_or, take, drop, set}
use Rattle.std.proofs.Common.{arith, sym, ap, ◌∙◌, append_assoc, length-append, length-drop, take-append-drop, length-take-le, take-suc, drop-drop, drop_at, take_at, get_or-take, get_or-drop}
use Rattle.std.proofs.lemmas.List.{take-append-le, drop-append-le, set_at}
use Rattle.std.proofs.Math.Seq.{drop-append-add, take-append_seam}
use Rattle.lists.specs.Lists.{spliced}
use Rattle.lists.proofs.laws.MemberLaws.{drop-next}

module _ {A : Type 0} (xs : List A) (at : ℕ) where
  -- What stands before the rest.
  length_front : (part : List A) → at ≤ length xs → length (take at xs ++ part) ≡ at + length part
  length_front part h = omega (arith, length-append (take at xs) part, length-take-le at xs h)

  by_front : (part : List A) → spliced xs at part ≡ (take at xs ++ part) ++ drop (at + length part) xs
  by_front part = sym (append_assoc (take at xs) part (drop (at + length part) xs))

  pub length-spliced : (part : List A) → at + length part ≤ length xs → length (spliced xs at part) ≡ length xs
  length-spliced part h = ap length (by_front part)
      ∙ omega (
        arith,
        length-append (take at xs ++ part) (drop (at + length part) xs),
        length_front part (omega arith),
        length-drop (at + length part) xs,
      )

  pub spliced-nothing : spliced xs at [] ≡ xs
  spliced-nothing = let e : at + 0 ≡ at = omega arith in ap (λ (k : ℕ). take at xs ++ drop k xs) e ∙ take-append-drop at xs

  -- One more place written.
  pub spliced-next : (part : List A) (a : A) → at + length part < length xs
      → set (spliced xs at part) (at + length part) a ≡ spliced xs at (part ++ (a ∷ []))
  spliced-next part a h =
      ap (λ (t : List A). set t (at + length part) a)
      (by_front part ∙ ap (λ (t : List A). (take at xs ++ part) ++ t) (drop-next xs (at + length part) next a next_is h))
      ∙ set_at (take at xs ++ part) (get_or xs (at + length part) a) (drop next xs) a (at + length part) (length_front part (omega arith))
      ∙ append_assoc (take at xs) part (a ∷ drop next xs)
      ∙ ap (λ (t : List A). take at xs ++ t) (sym (append_assoc part (a ∷ []) (drop next xs)))
    where
      next : ℕ
      next = at + length (part ++ (a ∷ []))

      next_is : next ≡ suc (at + length part)
      next_is = omega (arith, length-append part (a ∷ []))

  -- What was written is read back.
  pub spliced_part : (part : List A) → at ≤ length xs → take (length part) (drop at (spliced xs at part)) ≡ part
  spliced_part part h =
      ap (λ (t : List A). take (length part) t) (drop_at (take at xs) (part ++ drop (at + length part) xs) at (length-take-le at xs h))
      ∙ take-append_seam part (drop (at + length part) xs)

  -- Parts before and after it are as they were.
  within-front : (ys : List A) (i n : ℕ) → i + n ≤ at → at ≤ length xs → take n (drop i (take at xs ++ ys)) ≡ take n (drop i (take at xs))
  within-front ys i n h l =
      ap (λ (t : List A). take n t) (drop-append-le i (take at xs) ys (omega (arith, length-take-le at xs l)))
      ∙ take-append-le n (drop i (take at xs)) ys (omega (arith, length-drop i (take at xs), length-take-le at xs l))

  pub before-spliced : (part : List A) (i n : ℕ) → i + n ≤ at → at ≤ length xs → take n (drop i (spliced xs at part)) ≡ take n (drop i xs)
  before-spliced part i n h l =
      within-front (part ++ drop (at + length part) xs) i n h l
      ∙ sym (within-front (drop at xs) i n h l)
      ∙ ap (λ (t : List A). take n (drop i t)) (take-append-drop at xs)

  pub after-spliced : (part : List A) (i : ℕ) → at + length part ≤ i → at ≤ length xs → drop i (spliced xs at part) ≡ drop i xs
  after-spliced part i h l =
      ap (λ (t : List A). drop i t) (by_front part)
      ∙ ap (λ (k : ℕ). drop k ((take at xs ++ part) ++ drop (at + length part) xs)) split
      ∙ drop-append-add (take at xs ++ part) (drop (at + length part) xs) (i - (at + length part))
      ∙ drop-drop (i - (at + length part)) (at + length part) xs
      ∙ ap (λ (k : ℕ). drop k xs) (sym whole)
    where
      whole : i ≡ at + length part + (i - (at + length part))
      whole = omega arith

      split : i ≡ length (take at xs ++ part) + (i - (at + length part))
      split = omega (arith, length_front part l)

  -- Place by place.
  pub place-before : (part : List A) (i : ℕ) (d : A) → i < at → at ≤ length xs → get_or (spliced xs at part) i d ≡ get_or xs i d
  place-before part i d h l =
      sym (get_or-take at (spliced xs at part) i d h) ∙ ap (λ (t : List A). get_or t i d) (before-spliced part 0 at (omega arith) l)
      ∙ get_or-take at xs i d h

  pub place-within : (part : List A) (j : ℕ) (d : A) → j < length part → at ≤ length xs → get_or (spliced xs at part) (at + j) d ≡ get_or part j d
  place-within part j d h l =
      sym (get_or-drop at (spliced xs at part) j d)
      ∙ sym (get_or-take (length part) (drop at (spliced xs at part)) j d h)
      ∙ ap (λ (t : List A). get_or t j d) (spliced_part part l)

  -- A part written right after another: both are written.
  pub spliced_twice :
      (part more : List A) → at + length part ≤ length xs →
      spliced (spliced xs at part) (at + length part) more ≡ spliced xs at (part ++ more)
  spliced_twice part more h =
      ap (λ (t : List A). t ++ (more ++ drop (at + length part + length more) (spliced xs at part)))
      (ap (λ (t : List A). take (at + length part) t) (by_front part)
      ∙ take_at (take at xs ++ part) (drop (at + length part) xs) (at + length part) (length_front part (omega arith)))
      ∙ ap (λ (t : List A). (take at xs ++ part) ++ (more ++ t)) (after-spliced part (at + length part + length more) (omega arith) (omega arith))
      ∙ append_assoc (take at xs) part (more ++ drop (at + length part + length more) xs)
      ∙ ap (λ (t : List A). take at xs ++ t) (sym (append_assoc part more (drop (at + length part + length more) xs)))
      ∙ ap (λ (k : ℕ). take at xs ++ ((part ++ more) ++ drop k xs)) after
    where
      after : at + length part + length more ≡ at + length (part ++ more)
      after = omega (arith, length-append part more)

  -- One more place written before a part.
  pub spliced-before : (part : List A) (a : A) (j : ℕ) → at ≡ j + 1 → at ≤ length xs → set (spliced xs at part) j a ≡ spliced xs j (a ∷ part)
  spliced-before part a j e h =
      ap (λ (t : List A). set (t ++ (part ++ drop (at + length part) xs)) j a)
      (ap (λ (k : ℕ). take k xs) (let z : at ≡ suc j = omega arith in z) ∙ take-suc xs j a (omega arith))
      ∙ ap (λ (t : List A). set t j a) (append_assoc (take j xs) (get_or xs j a ∷ []) (part ++ drop (at + length part) xs))
      ∙ set_at (take j xs) (get_or xs j a) (part ++ drop (at + length part) xs) a j (length-take-le j xs (omega arith))
      ∙ ap (λ (k : ℕ). take j xs ++ (a ∷ (part ++ drop k xs))) (let z : at + length part ≡ j + suc (length part) = omega arith in z)

-- A part that was lent, put back in its place.
pub put_back : (xs part : List ℕ) (at k : ℕ) → length part ≡ k → take at xs ++ (part ++ drop k (drop at xs)) ≡ spliced xs at part
put_back xs part at k e = ap (λ (t : List ℕ). take at xs ++ (part ++ t))
    (drop-drop k at xs ∙ ap (λ (x : ℕ). drop x xs) {x = at + k} {y = at + length part} (omega arith))
