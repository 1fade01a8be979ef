-- `readers::bridge::read_bridge` finds what the row of kind 1 lays down: each test of the code is one of `read_of`, in its order. Assumes nothing.
use mathlib.Core.Path.{sym, ap, ◌∙◌}
use native.Mathlib.Omega.{arith}
use Rattle.rule.specs.Words.{words_of}
use Rattle.rule.specs.Records.{Bridge, bridge, bridge_layout, address, group_bit}
use Rattle.readers.proofs.laws.WordLaws.{count_of_words}
use Rattle.readers.proofs.laws.ReaderLaws.{read-cut, read-zero-bit, read_outside, read_whole, outside_here, inside-here, inside-all}
use Rattle.readers.specs.Readers.{whole}
use Rattle.readers.proofs.bridge.read_bridge.Goals as goal

pub returns-then-part-lt12 : goal.returns-then-part-lt12
returns-then-part-lt12 c =
    sym (read-cut bridge_layout (words_of c.args.part.now) (omega (arith, count_of_words c.args.part.now)))

pub returns-then-word_at-ne0 : goal.returns-then-word_at-ne0
returns-then-word_at-ne0 c =
    sym
    (read-zero-bit bridge_layout (words_of c.args.part.now) (omega (arith, count_of_words c.args.part.now))
    (λ e. c.if-word_at-ne0.true (omega arith)))

pub returns-then-not-within : goal.returns-then-not-within
returns-then-not-within c =
    let part = c.args.part.now in
    sym
    (read_outside bridge_layout (words_of part) (omega (arith, count_of_words part)) (omega arith)
    (outside_here _ _ (words_of part) c.within.result _ c.within.ensures
    (ap (λ (x : Bridge). x.sp_source_id) c.bridge_of-b.ensures) c.if-not-within.true))

pub returns-then-not-within-2 : goal.returns-then-not-within-2
returns-then-not-within-2 c =
    let part = c.args.part.now in
    let words = words_of part in
    sym
    (read_outside bridge_layout words (omega (arith, count_of_words part)) (omega arith)
    (inside-here _ _ words c.within.result _ c.within.ensures
    (ap (λ (x : Bridge). x.sp_source_id) c.bridge_of-b.ensures) c.if-not-within.false
    ∙ outside_here _ _ words c.within-2.result _ c.within-2.ensures
    (ap (λ (x : Bridge). address x) c.bridge_of-b.ensures) c.if-not-within-2.true))

pub returns-then-not-within-3 : goal.returns-then-not-within-3
returns-then-not-within-3 c =
    let bridge-of-ensures = c.bridge_of-b.ensures in
    let part = c.args.part.now in
    let words = words_of part in
    sym
    (read_outside bridge_layout words (omega (arith, count_of_words part)) (omega arith)
    (inside-here _ _ words c.within.result _ c.within.ensures
    (ap (λ (x : Bridge). x.sp_source_id) bridge-of-ensures) c.if-not-within.false
    ∙ inside-here _ _ words c.within-2.result _ c.within-2.ensures
    (ap (λ (x : Bridge). address x) bridge-of-ensures) c.if-not-within-2.false
    ∙ outside_here _ _ words c.within-3.result _ c.within-3.ensures
    (ap (λ (x : Bridge). group_bit (address x)) bridge-of-ensures) c.if-not-within-3.true))

pub returns : goal.returns
returns c =
    let bridge-of-ensures = c.bridge_of-b.ensures in
    let part = c.args.part.now in
    let words = words_of part in
    ap (λ (x : Bridge). whole (bridge x)) bridge-of-ensures
    ∙ sym
    (read_whole bridge_layout words (omega (arith, count_of_words part)) (omega arith)
    (inside-here _ _ words c.within.result _ c.within.ensures
    (ap (λ (x : Bridge). x.sp_source_id) bridge-of-ensures) c.if-not-within.false
    ∙ inside-here _ _ words c.within-2.result _ c.within-2.ensures
    (ap (λ (x : Bridge). address x) bridge-of-ensures) c.if-not-within-2.false
    ∙ inside-here _ _ words c.within-3.result _ c.within-3.ensures
    (ap (λ (x : Bridge). group_bit (address x)) bridge-of-ensures) c.if-not-within-3.false
    ∙ inside-all words))
