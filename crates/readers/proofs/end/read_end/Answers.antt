-- `readers::end::read_end` finds what the row of kind 15 lays down. Assumes nothing.
use native.Mathlib.Omega.{arith}
use mathlib.Core.Path.{refl, sym, ap, ◌∙◌}
use Rattle.rule.specs.Words.{words_of}
use Rattle.rule.specs.Records.{end, end_layout}
use Rattle.readers.proofs.laws.WordLaws.{count_of_words}
use Rattle.readers.specs.Readers.{whole}
use Rattle.readers.proofs.laws.ReaderLaws.{read-cut, read_whole, inside-all}
use Rattle.readers.proofs.end.read_end.Goals as goal

pub returns-then-part-lt4 : goal.returns-then-part-lt4
returns-then-part-lt4 c =
    sym (read-cut end_layout (words_of c.args.part.now) (omega (arith, count_of_words c.args.part.now)))

pub returns : goal.returns
returns c =
    let part = c.args.part.now in
    ap (λ n. whole (end n)) (omega arith)
    ∙ sym (read_whole end_layout (words_of part) (omega (arith, count_of_words part)) refl (inside-all (words_of part)))
