-- `faults::lowest::half_link_fault` finds the lowest fault of a record of kind 2: one that it shows by itself, then those left. Assumes nothing.
use native.Mathlib.Omega.{arith}
use mathlib.Core.Path.{◌≡◌, refl, sym, ◌∙◌}
use mathlib.Core.Bool.{Bool, true, false}
use Rattle.rule.specs.Words.{words_of}
use Rattle.rule.specs.Records.{half_link, half_link_of, half_link_layout}
use Rattle.table.specs.Positions.{half_links_from}
use Rattle.table.proofs.laws.PositionLaws.{how_many}
use Rattle.readers.specs.Readers.{half_link_values}
use Rattle.earlier.proofs.laws.HalfLinkLaws.{port-repeated}
use Rattle.faults.specs.Faults.{numbered, fault_at}
use Rattle.faults.proofs.laws.FaultNotions.{left_by_tests}
use Rattle.faults.proofs.laws.FaultLaws.{Judged, judged, own-fault, left-fault, unknown-ends, read_of_16_bits}
use Rattle.faults.proofs.lowest.half_link_fault.Goals.{After-without_own_fault, After-is_wrong_link}
use Rattle.faults.proofs.lowest.half_link_fault.Goals as goal

as_judged :
    (c : After-without_own_fault) →
    Judged (λ h. half_link (half_link_values h)) half_link_layout c.args.table.now c.args.s c.without_own_fault.result
as_judged c =
    judged _ half_link_layout c.args.table.now c.args.s _ _ _ (let (_, word-is) = c.requires.whole in omega (arith, word-is)) c.read_half_link-read.ensures c.last_kind.ensures
    (sym (how_many half_link_of 3 (half_links_from c.args.s) (words_of c.args.table.now) c.args.s.half_links)) c.without_own_fault.ensures

pub returns-in_err-h : goal.returns-in_err-h
returns-in_err-h c =
    own-fault (as_judged (goal.at.returns-in_err-h c).After-without_own_fault) _ c.in_err-h.was _
    c.from_residual.ensures.1

pub returns-then-names_unknown : goal.returns-then-names_unknown
returns-then-names_unknown c =
    left-fault (as_judged (goal.at.returns-then-names_unknown c).After-without_own_fault) _ c.in_ok-h.was
    false true _ _ false refl
    (unknown-ends (words_of c.args.table.now) c.args.s c.in_ok-h.h.near c.in_ok-h.h.far ∙ sym c.if-names_unknown.ensures)
    refl refl refl

pub is_port_repeated-requires : goal.is_port_repeated-requires
is_port_repeated-requires c =
    let of-16-bits = read_of_16_bits (as_judged (goal.at.is_port_repeated-requires c).After-without_own_fault) _ c.in_ok-h.was in
    (c.requires.keyed.indexed, of-16-bits.0, of-16-bits.1)

pub returns-then-is_port_repeated : goal.returns-then-is_port_repeated
returns-then-is_port_repeated c =
    let here = as_judged (goal.at.returns-then-is_port_repeated c).After-without_own_fault in
    let of-16-bits = read_of_16_bits here _ c.in_ok-h.was in
    left-fault here _ c.in_ok-h.was
    false false true _ false refl
    (unknown-ends (words_of c.args.table.now) c.args.s c.in_ok-h.h.near c.in_ok-h.h.far ∙ sym c.if-names_unknown.ensures)
    (sym (port-repeated c.requires.keyed (half_link_values c.in_ok-h.h) of-16-bits.1) ∙ sym c.if-is_port_repeated.ensures)
    refl refl

pub is_wrong_link-requires : goal.is_wrong_link-requires
is_wrong_link-requires c =
    (omega (arith, c.half_links_from.ensures), rw c.half_links_from.ensures c.requires.keyed_2)

-- Its lowest fault, where its link is wrong or not and it has no fault before 9.
by_link :
    (c : After-is_wrong_link) (wrong : Bool) → c.is_wrong_link.result ≡ wrong →
    numbered (left_by_tests false false false wrong false) ≡ fault_at (words_of c.args.table.now) c.args.s half_link_layout
by_link c wrong e =
    let here = as_judged (goal.at.After-is_wrong_link c).After-without_own_fault in
    let of-16-bits = read_of_16_bits here _ c.in_ok-h.was in
    left-fault here _ c.in_ok-h.was
    false false false wrong false refl
    (unknown-ends (words_of c.args.table.now) c.args.s c.in_ok-h.h.near c.in_ok-h.h.far ∙ sym c.if-names_unknown.ensures)
    (sym (port-repeated c.requires.keyed (half_link_values c.in_ok-h.h) of-16-bits.1) ∙ sym c.if-is_port_repeated.ensures)
    (sym (rw c.half_links_from.ensures at c.is_wrong_link.ensures) ∙ e) refl

pub returns-then-is_wrong_link : goal.returns-then-is_wrong_link
returns-then-is_wrong_link c = by_link (goal.at.returns-then-is_wrong_link c).After-is_wrong_link true c.if-is_wrong_link.true

pub returns : goal.returns
returns c = by_link (goal.at.returns c).After-is_wrong_link false c.if-is_wrong_link.false
