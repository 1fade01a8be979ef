-- `faults::lowest::bridge_fault` finds the lowest fault of a record of kind 1: one that it shows by itself, then those left. Assumes nothing.
use native.Mathlib.Omega.{arith}
use mathlib.Core.Path.{refl, sym}
use mathlib.Core.Bool.{true, false}
use Rattle.rule.specs.Words.{words_of}
use Rattle.rule.specs.Records.{bridge, bridge_of, bridge_layout}
use Rattle.table.proofs.laws.PositionLaws.{how_many}
use Rattle.readers.specs.Readers.{bridge_values}
use Rattle.faults.proofs.laws.FaultLaws.{Judged, judged, own-fault, left-fault}
use Rattle.faults.proofs.lowest.bridge_fault.Goals.{After-without_own_fault}
use Rattle.faults.proofs.lowest.bridge_fault.Goals as goal

as_judged :
    (c : After-without_own_fault) →
    Judged (λ b. bridge (bridge_values b)) bridge_layout c.args.table.now c.args.s c.without_own_fault.result
as_judged c =
    judged _ bridge_layout c.args.table.now c.args.s _ _ _ (omega (arith, c.words_read-at.ensures)) c.read_bridge-read.ensures c.last_kind.ensures
    (sym (how_many bridge_of 3 0 (words_of c.args.table.now) c.args.s.bridges)) c.without_own_fault.ensures

pub returns-in_err-b : goal.returns-in_err-b
returns-in_err-b c =
    own-fault (as_judged (goal.at.returns-in_err-b c).After-without_own_fault) _ c.in_err-b.was _
    c.from_residual.ensures.1

pub returns-then-is_bridge_repeated : goal.returns-then-is_bridge_repeated
returns-then-is_bridge_repeated c =
    left-fault (as_judged (goal.at.returns-then-is_bridge_repeated c).After-without_own_fault) _ c.in_ok-b.was
    false false true false false refl refl (sym c.if-is_bridge_repeated.ensures) refl refl

pub returns : goal.returns
returns c =
    left-fault (as_judged (goal.at.returns c).After-without_own_fault) _ c.in_ok-b.was
    false false false false false refl refl (sym c.if-is_bridge_repeated.ensures) refl refl
