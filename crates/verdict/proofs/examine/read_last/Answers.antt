-- `verdict::examine::read_last` reads the end record, or refuses what stands in its place. Assumes nothing.
use native.Mathlib.Omega.{arith}
use mathlib.Core.Path.{sym, ◌∙◌}
use Rattle.readers.proofs.laws.WordLaws.{count_of_words}
use Rattle.verdict.proofs.laws.LastLaws.{no_end, out_of_order, end_refused, end-accepted}
use Rattle.verdict.proofs.examine.read_last.Goals as goal

pub returns-then-words-at-clause-result_value : goal.returns-then-words-at-clause-result_value
returns-then-words-at-clause-result_value c =
    let (_, reached, _) = c.requires in
    rw c.number.ensures
    (no_end reached c.words_read-at.result _ c.words_read-at.ensures (sym (count_of_words c.args.table.now)) c.if-words-at.true)

pub returns-then-not-is_next-clause-result_value : goal.returns-then-not-is_next-clause-result_value
returns-then-not-is_next-clause-result_value c =
    let (_, reached, lower_only) = c.requires in
    rw c.number-then-not-is_next.ensures
    (out_of_order reached (omega (arith, c.words_read-at.ensures, count_of_words c.args.table.now)) lower_only
    (sym c.is_next.ensures ∙ c.if-not-is_next.true) c.words_read-at.result
    c.words_read-at.ensures)

pub returns-in-Err-clause-result_value : goal.returns-in-Err-clause-result_value
returns-in-Err-clause-result_value c =
    let (_, reached, _) = c.requires in
    end_refused reached (sym c.is_next.ensures ∙ c.if-not-is_next.false) c.in-Err.fault
    c.in-Err.ensures c.words_read-at.result c.words_read-at.ensures c.refusal.result c.refusal.ensures

pub returns-clause-result_value : goal.returns-clause-result_value
returns-clause-result_value c =
    let (_, reached, _) = c.requires in
    end-accepted reached (sym c.is_next.ensures ∙ c.if-not-is_next.false) c.in_default.ensures
