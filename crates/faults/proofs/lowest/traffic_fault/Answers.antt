-- `faults::lowest::traffic_fault` finds the lowest fault of a record of kind 5: one that it shows by itself, then those left. Assumes nothing.
use native.Mathlib.Omega.{arith}
use mathlib.Core.Path.{◌≡◌, refl, sym, ◌∙◌}
use mathlib.Core.Bool.{Bool, true, false}
use Rattle.rule.specs.Words.{words_of}
use Rattle.rule.specs.Records.{traffic, traffic_of, traffic_layout}
use Rattle.table.specs.Positions.{traffic_from}
use Rattle.table.proofs.laws.PositionLaws.{how_many}
use Rattle.readers.specs.Readers.{traffic_values}
use Rattle.earlier.proofs.laws.KeyLaws.{vid_by_index}
use Rattle.faults.specs.Faults.{numbered, fault_at}
use Rattle.faults.proofs.laws.FaultNotions.{left_by_tests}
use Rattle.faults.proofs.laws.FaultLaws.{Judged, judged, own-fault, left-fault, unknown-ends, unknown-traffic, read-traffic-bits}
use Rattle.faults.proofs.lowest.traffic_fault.Goals.{After-without_own_fault, After-is_traffic_repeated}
use Rattle.faults.proofs.lowest.traffic_fault.Goals as goal

as_judged :
    (c : After-without_own_fault) →
    Judged (λ t. traffic (traffic_values t)) traffic_layout c.args.table.now c.args.s c.without_own_fault.result
as_judged c =
    judged _ traffic_layout c.args.table.now c.args.s _ _ _ (let (_, word-is) = c.requires.whole in omega (arith, word-is)) c.read_traffic-read.ensures c.last_kind.ensures
    (sym (how_many traffic_of 2 (traffic_from c.args.s) (words_of c.args.table.now) c.args.s.traffic)) c.without_own_fault.ensures

pub returns-in_err-t : goal.returns-in_err-t
returns-in_err-t c =
    own-fault (as_judged (goal.at.returns-in_err-t c).After-without_own_fault) _ c.in_err-t.was _
    c.from_residual.ensures.1

pub returns-then-names_unknown : goal.returns-then-names_unknown
returns-then-names_unknown c =
    let words = words_of c.args.table.now in
    let t = traffic_values c.in_ok-t.t in
    left-fault (as_judged (goal.at.returns-then-names_unknown c).After-without_own_fault) _ c.in_ok-t.was
    false true _ false false refl
    (unknown-traffic words c.args.s t true _
    (unknown-ends words c.args.s t.from t.to ∙ sym c.if-names_unknown.ensures) refl)
    refl refl refl

pub returns-then-not-is_vid_indexed : goal.returns-then-not-is_vid_indexed
returns-then-not-is_vid_indexed c =
    let words = words_of c.args.table.now in
    let t = traffic_values c.in_ok-t.t in
    left-fault (as_judged (goal.at.returns-then-not-is_vid_indexed c).After-without_own_fault) _ c.in_ok-t.was
    false true _ false false refl
    (unknown-traffic words c.args.s t false false
    (unknown-ends words c.args.s t.from t.to ∙ sym c.if-names_unknown.ensures)
    (sym (vid_by_index c.requires.vid_index t.vid) ∙ sym c.is_vid_indexed.ensures ∙ c.if-not-is_vid_indexed.true))
    refl refl refl

pub is_traffic_repeated-requires : goal.is_traffic_repeated-requires
is_traffic_repeated-requires c =
    let bits = read-traffic-bits (as_judged (goal.at.is_traffic_repeated-requires c).After-without_own_fault) _ c.in_ok-t.was in
    (omega (arith, c.traffic_from.ensures), bits.0, bits.1, bits.2, rw c.traffic_from.ensures c.requires.traffic_index)

-- Its lowest fault, where it repeats an earlier record or not and has no fault before 8.
by_repeat :
    (c : After-is_traffic_repeated) (repeats : Bool) → c.is_traffic_repeated.result ≡ repeats →
    numbered (left_by_tests false false repeats false false) ≡ fault_at (words_of c.args.table.now) c.args.s traffic_layout
by_repeat c repeats e =
    let words = words_of c.args.table.now in
    let t = traffic_values c.in_ok-t.t in
    left-fault (as_judged (goal.at.After-is_traffic_repeated c).After-without_own_fault) _ c.in_ok-t.was
    false false repeats false false refl
    (unknown-traffic words c.args.s t false true
    (unknown-ends words c.args.s t.from t.to ∙ sym c.if-names_unknown.ensures)
    (sym (vid_by_index c.requires.vid_index t.vid) ∙ sym c.is_vid_indexed.ensures ∙ c.if-not-is_vid_indexed.false))
    (sym (rw c.traffic_from.ensures at c.is_traffic_repeated.ensures) ∙ e) refl refl

pub returns-then-is_traffic_repeated : goal.returns-then-is_traffic_repeated
returns-then-is_traffic_repeated c =
    by_repeat (goal.at.returns-then-is_traffic_repeated c).After-is_traffic_repeated true c.if-is_traffic_repeated.true

pub returns : goal.returns
returns c = by_repeat (goal.at.returns c).After-is_traffic_repeated false c.if-is_traffic_repeated.false
