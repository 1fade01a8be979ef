-- `editing::find::find_half_link` finds the first half-link with a name. Assumes nothing.
use native.Mathlib.Omega.{arith}
use mathlib.Core.Path.{sym, ◌∙◌}
use Rattle.rule.specs.Words.{words_of}
use Rattle.lists.proofs.laws.FirstPassing.{first-starts, first_on}
use Rattle.editing.proofs.laws.FindLaws.{found-named, none_named}
use Rattle.editing.proofs.find.find_half_link.Goals as goal

pub loop-i-init : goal.loop-i-init
loop-i-init c = first-starts _ _

pub returns-then-has_name : goal.returns-then-has_name
returns-then-has_name c =
    found-named (words_of c.args.table.now) c.args.s c.args.name c.loop-i.i c.loop-i.invariant
    c.loop-i-test.true (sym c.has_name.ensures ∙ c.if-has_name.true)

pub loop-i-preserved : goal.loop-i-preserved
loop-i-preserved c =
    first_on c.loop-i.invariant c.loop-i-test.true (sym c.has_name.ensures ∙ c.if-has_name.false)

pub returns : goal.returns
returns c =
    let none = none_named (words_of c.args.table.now) c.args.s c.args.name c.loop-i.i c.loop-i.invariant c.loop-i-test.false in
    omega (arith, none, c.loop-i.auto.i-end, c.loop-i-test.false)
