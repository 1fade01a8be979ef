-- The outcomes of path, tree and entries as lines of text: the answer, and every place of the lent lists after the call. A house form:
-- docs/DECISIONS.md. Assumes nothing.
use Rattle.std.specs.Prelude.{ℕ, List, [], ◌∷◌, ◌++◌}
use Rattle.rule.specs.Outcome.{Outcome, answered, refused}
use Rattle.rule.specs.Answers.{CostAndHops}
use Rattle.text.specs.Text.{newline, field_text, fields, path_word}
use Rattle.check_text.specs.CheckText.{refusal_text}

-- `tree`
abbrev pub tree_word : List ℕ
tree_word = 116 ∷ 114 ∷ 101 ∷ 101 ∷ []

-- `entries`
abbrev pub entries_word : List ℕ
entries_word = 101 ∷ 110 ∷ 116 ∷ 114 ∷ 105 ∷ 101 ∷ 115 ∷ []

-- `path` with cost and hops, or the refusal.
abbrev pub path_answer_text : Outcome CostAndHops → List ℕ
path_answer_text (answered v) = path_word ++ (field_text v.cost ++ field_text v.hops)
path_answer_text (refused number kind at) = refusal_text number kind at

-- `tree` with the number of bridges, or the refusal.
abbrev pub tree_answer_text : Outcome ℕ → List ℕ
tree_answer_text (answered bridges) = tree_word ++ field_text bridges
tree_answer_text (refused number kind at) = refusal_text number kind at

-- `entries` with the number of words, or the refusal.
abbrev pub entries_answer_text : Outcome ℕ → List ℕ
entries_answer_text (answered words) = entries_word ++ field_text words
entries_answer_text (refused number kind at) = refusal_text number kind at

-- The line of a path.
abbrev pub path_text : Outcome CostAndHops × List ℕ → List ℕ
path_text (o, list) = path_answer_text o ++ (fields list ++ (newline ∷ []))

-- The line of a tree.
abbrev pub tree_text : Outcome ℕ × List ℕ × List ℕ × List ℕ → List ℕ
tree_text (o, costs, hop_counts, lasts) = tree_answer_text o ++ (fields costs ++ (fields hop_counts ++ (fields lasts ++ (newline ∷ []))))

-- The line of a bridge's entries.
abbrev pub entries_text : Outcome ℕ × List ℕ → List ℕ
entries_text (o, list) = entries_answer_text o ++ (fields list ++ (newline ∷ []))
