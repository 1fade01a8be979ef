-- `readers::traffic::read_traffic` finds what the row of kind 5 lays down: each test of the code is one of `read_of`, in its order. Assumes nothing.
use mathlib.Core.Path.{refl, sym, ap, ◌∙◌}
use native.Mathlib.Omega.{arith}
use Rattle.rule.specs.Words.{words_of}
use Rattle.rule.specs.Records.{Traffic, traffic, traffic_layout}
use Rattle.readers.proofs.laws.WordLaws.{count_of_words}
use Rattle.readers.proofs.laws.ReaderLaws.{read-cut, read_outside, read_whole, outside_here, inside-here, inside-all}
use Rattle.readers.specs.Readers.{whole}
use Rattle.readers.proofs.traffic.read_traffic.Goals as goal

pub returns-then-part-lt8 : goal.returns-then-part-lt8
returns-then-part-lt8 c =
    sym (read-cut traffic_layout (words_of c.args.part.now) (omega (arith, count_of_words c.args.part.now)))

pub returns-then-not-within : goal.returns-then-not-within
returns-then-not-within c =
    let part = c.args.part.now in
    sym
    (read_outside traffic_layout (words_of part) (omega (arith, count_of_words part)) refl
    (outside_here _ _ (words_of part) c.within.result _ c.within.ensures
    (ap (λ (x : Traffic). x.vid) c.traffic_of-t.ensures) c.if-not-within.true))

pub returns-then-not-within-2 : goal.returns-then-not-within-2
returns-then-not-within-2 c =
    let part = c.args.part.now in
    let words = words_of part in
    sym
    (read_outside traffic_layout words (omega (arith, count_of_words part)) refl
    (inside-here _ _ words c.within.result _ c.within.ensures
    (ap (λ (x : Traffic). x.vid) c.traffic_of-t.ensures) c.if-not-within.false
    ∙ outside_here _ _ words c.within-2.result _ c.within-2.ensures
    (ap (λ (x : Traffic). x.amount) c.traffic_of-t.ensures) c.if-not-within-2.true))

pub returns : goal.returns
returns c =
    let traffic-of-ensures = c.traffic_of-t.ensures in
    let part = c.args.part.now in
    let words = words_of part in
    ap (λ (x : Traffic). whole (traffic x)) traffic-of-ensures
    ∙ sym
    (read_whole traffic_layout words (omega (arith, count_of_words part)) refl
    (inside-here _ _ words c.within.result _ c.within.ensures (ap (λ (x : Traffic). x.vid) traffic-of-ensures)
    c.if-not-within.false
    ∙ inside-here _ _ words c.within-2.result _ c.within-2.ensures (ap (λ (x : Traffic). x.amount) traffic-of-ensures)
    c.if-not-within-2.false
    ∙ inside-all words))
