-- What a load or a change leaves, as a line of text: the answer, the numbers of the state after it, and every place of the three lists. A
-- house form: docs/DECISIONS.md. Assumes nothing.
use Rattle.std.specs.Prelude.{ℕ, List, [], ◌∷◌, ◌++◌}
use Rattle.rule.specs.Outcome.{Outcome, answered, refused}
use Rattle.text.specs.Text.{newline, field_text, fields}
use Rattle.check_text.specs.CheckText.{refusal_text}
use Rattle.edits.specs.declared.change.Running.{Running}

-- The word, or the refusal.
abbrev pub answer_text : List ℕ → Outcome Running → List ℕ
answer_text w (answered r) = w
answer_text w (refused number kind at) = refusal_text number kind at

abbrev pub numbers_text : Running → List ℕ
numbers_text r = ((field_text r.length ++ field_text r.bridge) ++ field_text r.vid) ++ field_text r.changes

abbrev pub lists_text : List ℕ → List ℕ → List ℕ → List ℕ
lists_text costs hop_counts lasts = (fields costs ++ fields hop_counts) ++ fields lasts

-- The line.
abbrev pub state_text : List ℕ → Outcome Running → Running → List ℕ → List ℕ → List ℕ → List ℕ
state_text w o r costs hop_counts lasts = ((answer_text w o ++ numbers_text r) ++ lists_text costs hop_counts lasts) ++ (newline ∷ [])
