-- `readers::vid::read_vid` finds what the row of kind 3 lays down: each test of the code is one of `read_of`, in its order. Assumes nothing.
use mathlib.Core.Path.{refl, sym, ap, ◌∙◌}
use native.Mathlib.Omega.{arith}
use Rattle.rule.specs.Words.{words_of}
use Rattle.rule.specs.Records.{Vid, vid, vid_layout}
use Rattle.readers.proofs.laws.WordLaws.{count_of_words}
use Rattle.readers.proofs.laws.ReaderLaws.{read-cut, read_outside, read_whole, outside_here, inside-here, inside-all}
use Rattle.readers.specs.Readers.{whole}
use Rattle.readers.proofs.vid.read_vid.Goals as goal

pub returns-then-part-lt4 : goal.returns-then-part-lt4
returns-then-part-lt4 c =
    sym (read-cut vid_layout (words_of c.args.part.now) (omega (arith, count_of_words c.args.part.now)))

pub returns-then-not-within : goal.returns-then-not-within
returns-then-not-within c =
    let part = c.args.part.now in
    sym
    (read_outside vid_layout (words_of part) (omega (arith, count_of_words part)) refl
    (outside_here _ _ (words_of part) c.within.result _ c.within.ensures
    (ap (λ (x : Vid). x.vid) c.vid_of-v.ensures) c.if-not-within.true))

pub returns-then-not-within-2 : goal.returns-then-not-within-2
returns-then-not-within-2 c =
    let part = c.args.part.now in
    let words = words_of part in
    sym
    (read_outside vid_layout words (omega (arith, count_of_words part)) refl
    (inside-here _ _ words c.within.result _ c.within.ensures
    (ap (λ (x : Vid). x.vid) c.vid_of-v.ensures) c.if-not-within.false
    ∙ outside_here _ _ words c.within-2.result _ c.within-2.ensures
    (ap (λ (x : Vid). x.index) c.vid_of-v.ensures) c.if-not-within-2.true))

pub returns : goal.returns
returns c =
    let vid-of-ensures = c.vid_of-v.ensures in
    let part = c.args.part.now in
    let words = words_of part in
    ap (λ (x : Vid). whole (vid x)) vid-of-ensures
    ∙ sym
    (read_whole vid_layout words (omega (arith, count_of_words part)) refl
    (inside-here _ _ words c.within.result _ c.within.ensures (ap (λ (x : Vid). x.vid) vid-of-ensures)
    c.if-not-within.false
    ∙ inside-here _ _ words c.within-2.result _ c.within-2.ensures (ap (λ (x : Vid). x.index) vid-of-ensures)
    c.if-not-within-2.false
    ∙ inside-all words))
