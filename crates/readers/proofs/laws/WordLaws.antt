-- Laws of the words of a table: the first word by its bytes, the words of a part, how many there are.
-- Assumes nothing.
use Rattle.std.specs.Prelude.{ℕ, zero, suc, ◌+◌, ◌*◌, ◌-◌, ◌/◌, ◌≤◌, ◌≡◌, refl, List, [], ◌∷◌, length, get_or, take, drop}
use Rattle.std.proofs.Common.{arith, ap, ◌∙◌, length-drop, get_or-drop, take_all}
use Rattle.rule.specs.Words.{word, words_of}

pub first_word :
    (t : List ℕ) →
    4 ≤ length t →
    word (words_of t) 0 ≡ ((get_or t 0 0 * 256 + get_or t 1 0) * 256 + get_or t 2 0) * 256 + get_or t 3 0
unfolding words_of
first_word [] h = absurd (omega arith)
first_word (a ∷ []) h = absurd (omega arith)
first_word (a ∷ b ∷ []) h = absurd (omega arith)
first_word (a ∷ b ∷ c ∷ []) h = absurd (omega arith)
first_word (a ∷ b ∷ c ∷ d ∷ t) h = refl

pub count_of_words : (t : List ℕ) → length (words_of t) ≡ length t / 4
unfolding words_of
count_of_words [] = refl
count_of_words (a ∷ []) = refl
count_of_words (a ∷ b ∷ []) = refl
count_of_words (a ∷ b ∷ c ∷ []) = refl
count_of_words (a ∷ b ∷ c ∷ d ∷ t) = omega (arith, count_of_words t)

four : (n : ℕ) → 4 * suc n ≡ suc (suc (suc (suc (4 * n))))
four n = omega arith

-- The words of the part that begins with the word `n`.
pub words_of_part : (n : ℕ) (t : List ℕ) → words_of (drop (4 * n) t) ≡ drop n (words_of t)
unfolding words_of
words_of_part zero t = refl
words_of_part (suc n) [] = rw (four n)
words_of_part (suc n) (a ∷ []) = rw (four n)
words_of_part (suc n) (a ∷ b ∷ []) = rw (four n)
words_of_part (suc n) (a ∷ b ∷ c ∷ []) = rw (four n)
words_of_part (suc n) (a ∷ b ∷ c ∷ d ∷ t) = rw (four n) (words_of_part n t)

pub word_of_part : (n : ℕ) (t : List ℕ) → word (words_of (drop (4 * n) t)) 0 ≡ word (words_of t) n
word_of_part n t = rw (words_of_part n t) (get_or-drop n (words_of t) 0 0 ∙ ap (λ k. get_or (words_of t) k 0) (omega arith))

-- The part of a list that is lent from `a` on.
pub part_from : (a : ℕ) (t : List ℕ) → take (length t - a) (drop a t) ≡ drop a t
part_from a t = take_all (length t - a) (drop a t) (omega (arith, length-drop a t))

-- The words of the part of a table that is lent from the word `n` on.
pub words-from : (n : ℕ) (t : List ℕ) → words_of (take (length t - 4 * n) (drop (4 * n) t)) ≡ drop n (words_of t)
words-from n t = rw (part_from (4 * n) t) (words_of_part n t)
