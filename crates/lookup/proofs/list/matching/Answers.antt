-- `lookup::list::matching` gives the matching entry n: the entry that is still looked for counts down with each match passed. Assumes nothing.
use native.Mathlib.Omega.{arith}
use mathlib.Core.Path.{sym, ap, ◌∙◌}
use mathlib.Core.Option.{some}
use Rattle.rule.specs.Outcome.{answered}
use Rattle.lookup.proofs.laws.EntryListLaws.{looking_starts, looking_moved, looking_passes, looking_counts, looking_finds, looking_ends}
use Rattle.lookup.proofs.list.matching.Goals as goal

pub loop-i-init : goal.loop-i-init
loop-i-init c = looking_starts _ _ _ _

pub loop-i-preserved-then-not-is_match : goal.loop-i-preserved-then-not-is_match
loop-i-preserved-then-not-is_match c =
    looking_moved (omega arith)
    (looking_passes c.loop-i.invariant (omega (arith, c.loop-i-test.true)) (sym c.is_match.ensures ∙ c.if-not-is_match.true))

pub returns-then-left-eq0 : goal.returns-then-left-eq0
returns-then-left-eq0 c =
    let (port-of-is, _) = c.port_of.ensures in
    ap (λ p. answered (some p)) port-of-is
    ∙ ap answered
    (sym
    (looking_finds c.loop-i.invariant (omega (arith, c.loop-i-test.true))
    (sym c.is_match.ensures ∙ c.if-not-is_match.false) c.if-left-eq0.true))

pub loop-i-preserved : goal.loop-i-preserved
loop-i-preserved c =
    looking_moved (omega arith)
    (looking_counts c.loop-i.invariant (omega (arith, c.loop-i-test.true))
    (sym c.is_match.ensures ∙ c.if-not-is_match.false) (omega arith))

pub returns : goal.returns
returns c = ap answered (sym (looking_ends c.loop-i.invariant (omega (arith, c.loop-i-test.false))))
