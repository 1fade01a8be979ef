-- The check's outcome as one line of text. Assumes nothing.
use Rattle.std.specs.Prelude.{ℕ, List, [], ◌∷◌, ◌++◌}
use Rattle.std.proofs.Math.Option.{Option, none, some}
use Rattle.rule.specs.declared.answer.Counts.{Counts}
use Rattle.rule.specs.Outcome.{Outcome, answered, refused}
use Rattle.text.specs.Text.{newline, field_text, line}

-- `counts`
abbrev pub counts_word : List ℕ
counts_word = 99 ∷ 111 ∷ 117 ∷ 110 ∷ 116 ∷ 115 ∷ []

-- `refused`
abbrev pub refused_word : List ℕ
refused_word = 114 ∷ 101 ∷ 102 ∷ 117 ∷ 115 ∷ 101 ∷ 100 ∷ []

-- A space and `none`
abbrev pub none_field : List ℕ
none_field = 32 ∷ 110 ∷ 111 ∷ 110 ∷ 101 ∷ []

-- A kind by its number, or `none`.
abbrev pub kind_field : Option ℕ → List ℕ
kind_field none = none_field
kind_field (some k) = field_text k

-- `refused` with number, kind and word.
abbrev pub refusal_text : ℕ → Option ℕ → ℕ → List ℕ
refusal_text number kind at = refused_word ++ (field_text number ++ (kind_field kind ++ field_text at))

-- The five counts.
abbrev pub counts_fields : Counts → List ℕ
counts_fields c = c.bridges ∷ c.half_links ∷ c.usable_links ∷ c.vids ∷ c.members ∷ []

-- `counts` and the five counts, or the refusal.
abbrev pub check_text : Outcome Counts → List ℕ
check_text (answered c) = line counts_word (counts_fields c)
check_text (refused number kind at) = refusal_text number kind at ++ (newline ∷ [])
