-- `faults::lowest::member_fault` finds the lowest fault of a record of kind 4: one that it shows by itself, then those left. Assumes nothing.
use native.Mathlib.Omega.{arith}
use mathlib.Core.Path.{◌≡◌, refl, sym, ◌∙◌}
use mathlib.Core.Bool.{Bool, true, false}
use Rattle.rule.specs.Words.{words_of}
use borrow.Author.Tests.{lt-ltb, le-ltb}
use Rattle.rule.specs.Records.{member, member_of, member_layout}
use Rattle.table.specs.Positions.{members_from}
use Rattle.table.proofs.laws.PositionLaws.{how_many}
use Rattle.readers.specs.Readers.{member_values}
use Rattle.faults.specs.Faults.{numbered, fault_at}
use Rattle.faults.proofs.laws.FaultNotions.{left_by_tests}
use Rattle.faults.proofs.laws.FaultLaws.{Judged, judged, own-fault, left-fault, unknown-member, read-member-bits}
use Rattle.faults.proofs.lowest.member_fault.Goals.{After-without_own_fault, After-is_member_repeated}
use Rattle.faults.proofs.lowest.member_fault.Goals as goal

as_judged :
    (c : After-without_own_fault) →
    Judged (λ m. member (member_values m)) member_layout c.args.table.now c.args.s c.without_own_fault.result
as_judged c =
    judged _ member_layout c.args.table.now c.args.s _ _ _ (omega (arith, c.words_read-at.ensures)) c.read_member-read.ensures c.last_kind.ensures
    (sym (how_many member_of 2 (members_from c.args.s) (words_of c.args.table.now) c.args.s.members)) c.without_own_fault.ensures

pub returns-in_err-m : goal.returns-in_err-m
returns-in_err-m c =
    own-fault (as_judged (goal.at.returns-in_err-m c).After-without_own_fault) _ c.in_err-m.was _
    c.from_residual.ensures.1

pub returns-then-s-m : goal.returns-then-s-m
returns-then-s-m c =
    left-fault (as_judged (goal.at.returns-then-s-m c).After-without_own_fault) _ c.in_ok-m.was
    false true _ false false refl
    (unknown-member (words_of c.args.table.now) c.args.s (member_values c.in_ok-m.m) ∙ simp (le-ltb _ _ c.if-s-m.true))
    refl refl refl

pub returns-then-not-is_vid_known : goal.returns-then-not-is_vid_known
returns-then-not-is_vid_known c =
    left-fault (as_judged (goal.at.returns-then-not-is_vid_known c).After-without_own_fault) _ c.in_ok-m.was
    false true _ false false refl
    (unknown-member (words_of c.args.table.now) c.args.s (member_values c.in_ok-m.m)
    ∙ simp (
      lt-ltb _ _ c.if-s-m.false,
      sym (rw c.vids_from.ensures at c.is_vid_known.ensures) ∙ c.if-not-is_vid_known.true,
    ))
    refl refl refl

pub is_member_repeated-requires : goal.is_member_repeated-requires
is_member_repeated-requires c =
    let bits = read-member-bits (as_judged (goal.at.is_member_repeated-requires c).After-without_own_fault) _ c.in_ok-m.was in
    (omega (arith, c.members_from.ensures), bits.0, bits.1, rw c.members_from.ensures c.requires.member_index)

-- Its lowest fault, where it repeats an earlier record or not and has no fault before 8.
by_repeat :
    (c : After-is_member_repeated) (repeats : Bool) → c.is_member_repeated.result ≡ repeats →
    numbered (left_by_tests false false repeats false false) ≡ fault_at (words_of c.args.table.now) c.args.s member_layout
by_repeat c repeats e =
    left-fault (as_judged (goal.at.After-is_member_repeated c).After-without_own_fault) _ c.in_ok-m.was
    false false repeats false false refl
    (unknown-member (words_of c.args.table.now) c.args.s (member_values c.in_ok-m.m)
    ∙ simp (
      lt-ltb _ _ c.if-s-m.false,
      sym (rw c.vids_from.ensures at c.is_vid_known.ensures) ∙ c.if-not-is_vid_known.false,
    ))
    (sym (rw c.members_from.ensures at c.is_member_repeated.ensures) ∙ e) refl refl

pub returns-then-is_member_repeated : goal.returns-then-is_member_repeated
returns-then-is_member_repeated c =
    by_repeat (goal.at.returns-then-is_member_repeated c).After-is_member_repeated true c.if-is_member_repeated.true

pub returns : goal.returns
returns c = by_repeat (goal.at.returns c).After-is_member_repeated false c.if-is_member_repeated.false
