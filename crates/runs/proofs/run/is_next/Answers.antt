-- `runs::run::is_next` looks at the kind in the next word, where there is one. Assumes nothing.
use native.Mathlib.Omega.{arith}
use mathlib.Core.Path.{ap, ◌∙◌}
use Rattle.rule.specs.Words.{words_of}
use Rattle.readers.proofs.laws.WordLaws.{count_of_words}
use Rattle.runs.specs.Runs.{is_kind}
use Rattle.runs.proofs.laws.KindLaws.{no_word, kind_of_word}
use Rattle.runs.proofs.run.is_next.Goals as goal

pub returns-then-table-at : goal.returns-then-table-at
returns-then-table-at c =
    no_word (words_of c.args.table.now) c.args.kind _
    (omega (arith, c.words_read-at.ensures, count_of_words c.args.table.now))

pub returns : goal.returns
returns c =
    let (word-at-is, word-at-bound) = c.word_at.ensures in
    let table = c.args.table.now in
    kind_of_word (words_of table) c.args.kind c.words_read-at.result c.word_at.result
    (omega (arith, count_of_words table)) word-at-is word-at-bound
    ∙ ap (is_kind (words_of table) c.args.kind) c.words_read-at.ensures
