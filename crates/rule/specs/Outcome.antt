-- Outcomes: the values of an answer, or a refusal (01, "Refusals in checking order").
-- Assumes nothing.
use Rattle.std.specs.Prelude.{ℕ, List, ◌++◌, Bool, cond, leb, length, drop}
use Rattle.std.proofs.Math.Option.{Option, none}

-- "A refusal carries its number, the kind of the record concerned and the number of that record's first word."
pub data Outcome (A : Type 0) : Type 0 where
  answered : A → Outcome A
  refused : ℕ → Option ℕ → ℕ → Outcome A

module _ {A B : Type 0} where
  -- A refusal is passed on; an answer is asked on.
  abbrev pub and_then : Outcome A → (A → Outcome B) → Outcome B
  and_then (answered a) f = f a
  and_then (refused number kind at) f = refused number kind at

module _ {A : Type 0} where
  -- "Kind is none and the word 0 for 1 and 11 to 14".
  abbrev pub refused_as : ℕ → Outcome A
  refused_as number = refused number none 0

  -- An answer, or the refusal where the test passes.
  abbrev pub refused_if : Bool → ℕ → Outcome A → Outcome A
  refused_if test number o = cond test (refused_as number) o

-- The values of an answer, and the words that it writes to a lent list.
pub record Written (A : Type 0) : Type 0 where
  pub values : A
  pub words : List ℕ

-- An answer that is how many words it writes, and the words.
abbrev pub list_answer : List ℕ → Outcome (Written ℕ)
list_answer words = answered (record { values = length words; words = words })

-- The contents of a lent list after `words` were written to its front: "Words past those written keep their contents."
abbrev pub overwritten : List ℕ → List ℕ → List ℕ
overwritten words old = words ++ drop (length words) old

module _ {A : Type 0} where
  -- The outcome of a call with a lent list, and the list's later contents. "13. The lent list is shorter than the answer."
  -- "Lent lists keep every word" on a refusal.
  abbrev pub lent_to : List ℕ → Outcome (Written A) → Outcome A × List ℕ
  lent_to old (refused number kind at) = (refused number kind at, old)
  lent_to old (answered w) =
      cond (leb (length w.words) (length old))
      (answered w.values, overwritten w.words old)
      (refused_as 13, old)
