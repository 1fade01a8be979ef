-- `service_reading::judged::service_fault` tests the range before the repeat. Assumes nothing.
use Rattle.rule.specs.Services.{isid_of}
use Rattle.rule.specs.Words.{word, words_of}
use Rattle.service_reading.proofs.laws.ReadingLaws.{out_of_range, repeated, faultless}
use lib.ListN.{take}
use mathlib.Core.Path.{ap, ◌∙◌}
use native.Mathlib.Omega.{arith}
use Rattle.service_reading.proofs.judged.service_fault.Goals as goal

pub returns-then-not-within : goal.returns-then-not-within
returns-then-not-within c =
    let (word-at-is, _) = c.word_at.ensures in
    out_of_range (take c.args.n (words_of c.args.services.now))
    (word (words_of c.args.services.now) c.args.n) _ (c.isid_of-isid.ensures ∙ ap isid_of word-at-is) _
    c.within.ensures c.if-not-within.true

pub is_repeated-requires : goal.is_repeated-requires
is_repeated-requires c = omega (arith, c.requires)

pub returns-then-is_repeated : goal.returns-then-is_repeated
returns-then-is_repeated c =
    let (word-at-is, _) = c.word_at.ensures in
    repeated (take c.args.n (words_of c.args.services.now))
    (word (words_of c.args.services.now) c.args.n) _ (c.isid_of-isid.ensures ∙ ap isid_of word-at-is) _
    c.within.ensures _ c.is_repeated.ensures c.if-not-within.false c.if-is_repeated.true

pub returns : goal.returns
returns c =
    let (word-at-is, _) = c.word_at.ensures in
    faultless (take c.args.n (words_of c.args.services.now))
    (word (words_of c.args.services.now) c.args.n) _ (c.isid_of-isid.ensures ∙ ap isid_of word-at-is) _
    c.within.ensures _ c.is_repeated.ensures c.if-not-within.false c.if-is_repeated.false
