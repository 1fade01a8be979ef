-- The outcomes of reading and writing services as lines of text: the answer, and every place of the lent list after the call. A house form:
-- docs/DECISIONS.md. Assumes nothing.
use Rattle.std.specs.Prelude.{ℕ, List, [], ◌∷◌, ◌++◌}
use Rattle.rule.specs.Outcome.{Outcome, answered, refused}
use Rattle.text.specs.Text.{newline, field_text, fields}
use Rattle.check_text.specs.CheckText.{refusal_text}

-- `read`
abbrev pub read_word : List ℕ
read_word = 114 ∷ 101 ∷ 97 ∷ 100 ∷ []

-- `written`
abbrev pub written_word : List ℕ
written_word = 119 ∷ 114 ∷ 105 ∷ 116 ∷ 116 ∷ 101 ∷ 110 ∷ []

-- The word with how many words or bytes were written, or the refusal.
abbrev pub answer_text : List ℕ → Outcome ℕ → List ℕ
answer_text w (answered n) = w ++ field_text n
answer_text w (refused number kind at) = refusal_text number kind at

-- The line.
abbrev pub line_text : List ℕ → Outcome ℕ × List ℕ → List ℕ
line_text w (o, list) = answer_text w o ++ (fields list ++ (newline ∷ []))
