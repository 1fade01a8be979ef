-- `faults::lowest::end_fault` finds the lowest fault of a record of kind 15: one that it shows by itself, then those left. Assumes nothing.
use native.Mathlib.Omega.{arith}
use mathlib.Core.Path.{refl, sym, ◌∙◌}
use mathlib.Core.Bool.{true, false}
use lib.ListN.{length}
use Prim.Native.Nat.{◌+◌, ◌/◌}
use borrow.Author.Tests.{lt-ltb, le-ltb, eq-eqb, ne_eqb}
use Rattle.rule.specs.Records.{end, end_layout}
use Rattle.table.specs.Positions.{words_read}
use Rattle.faults.proofs.laws.FaultLaws.{Judged, judged, own-fault, left-fault, words-follow}
use Rattle.faults.proofs.lowest.end_fault.Goals.{After-without_own_fault}
use Rattle.faults.proofs.lowest.end_fault.Goals as goal

as_judged :
    (c : After-without_own_fault) →
    Judged end end_layout c.args.table.now c.args.s c.without_own_fault.result
as_judged c =
    judged _ end_layout c.args.table.now c.args.s _ _ _ (omega (arith, c.words_read-before.ensures)) c.read_end-read.ensures c.last_kind.ensures
    refl c.without_own_fault.ensures

pub returns-in_err-count : goal.returns-in_err-count
returns-in_err-count c =
    own-fault (as_judged (goal.at.returns-in_err-count c).After-without_own_fault) _ c.in_err-count.was _
    c.from_residual.ensures.1

pub returns-then-count-before : goal.returns-then-count-before
returns-then-count-before c =
    let words-read = c.words_read-before in
    left-fault (as_judged (goal.at.returns-then-count-before c).After-without_own_fault) _ c.in_ok-count.was
    true false false false _ (simp (ne_eqb _ _ (λ z. c.if-count-before.true (z ∙ sym words-read.ensures)))) refl refl refl refl

pub returns-then-before-table : goal.returns-then-before-table
returns-then-before-table c =
    let words-read = c.words_read-before in
    let table = c.args.table.now in
    let s = c.args.s in
    left-fault (as_judged (goal.at.returns-then-before-table c).After-without_own_fault) _ c.in_ok-count.was
    false false false false true (simp (eq-eqb _ _ (c.if-count-before.false ∙ words-read.ensures))) refl refl refl
    (words-follow table s true (lt-ltb (words_read s + 1) (length table / 4) (omega (arith, words-read.ensures))))

pub returns : goal.returns
returns c =
    let words-read = c.words_read-before in
    let table = c.args.table.now in
    let s = c.args.s in
    left-fault (as_judged (goal.at.returns c).After-without_own_fault) _ c.in_ok-count.was
    false false false false false (simp (eq-eqb _ _ (c.if-count-before.false ∙ words-read.ensures))) refl refl refl
    (words-follow table s false (le-ltb (words_read s + 1) (length table / 4) (omega (arith, words-read.ensures))))
