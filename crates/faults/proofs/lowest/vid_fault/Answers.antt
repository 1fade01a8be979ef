-- `faults::lowest::vid_fault` finds the lowest fault of a record of kind 3: one that it shows by itself, then those left. Assumes nothing.
use native.Mathlib.Omega.{arith}
use mathlib.Core.Path.{refl, sym}
use mathlib.Core.Bool.{true, false}
use Rattle.rule.specs.Words.{words_of}
use Rattle.rule.specs.Records.{vid, vid_of, vid_layout}
use Rattle.table.specs.Positions.{vids_from}
use Rattle.table.proofs.laws.PositionLaws.{how_many}
use Rattle.readers.specs.Readers.{vid_values}
use Rattle.faults.proofs.laws.FaultLaws.{Judged, judged, own-fault, left-fault}
use Rattle.faults.proofs.lowest.vid_fault.Goals.{After-without_own_fault}
use Rattle.faults.proofs.lowest.vid_fault.Goals as goal

as_judged :
    (c : After-without_own_fault) →
    Judged (λ v. vid (vid_values v)) vid_layout c.args.table.now c.args.s c.without_own_fault.result
as_judged c =
    judged _ vid_layout c.args.table.now c.args.s _ _ _ (omega (arith, c.words_read-at.ensures)) c.read_vid-read.ensures c.last_kind.ensures
    (sym (how_many vid_of 1 (vids_from c.args.s) (words_of c.args.table.now) c.args.s.vids)) c.without_own_fault.ensures

pub returns-in_err-v : goal.returns-in_err-v
returns-in_err-v c =
    own-fault (as_judged (goal.at.returns-in_err-v c).After-without_own_fault) _ c.in_err-v.was _
    c.from_residual.ensures.1

pub returns-then-is_vid_known : goal.returns-then-is_vid_known
returns-then-is_vid_known c =
    left-fault (as_judged (goal.at.returns-then-is_vid_known c).After-without_own_fault) _ c.in_ok-v.was
    false false true false false refl refl (sym (rw c.vids_from.ensures at c.if-is_vid_known.ensures)) refl refl

pub returns : goal.returns
returns c =
    left-fault (as_judged (goal.at.returns c).After-without_own_fault) _ c.in_ok-v.was
    false false false false false refl refl (sym (rw c.vids_from.ensures at c.if-is_vid_known.ensures)) refl refl
