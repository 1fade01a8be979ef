-- `running::permission::lacks_names` asks for the names that a change needs. Assumes nothing.
use native.Mathlib.Omega.{arith}
use Rattle.rule.specs.Words.{words_of}
use Rattle.table.specs.Positions.{plan_at}
use Rattle.verdict.proofs.laws.CheckedLaws.{bridges-counted}
use Rattle.running.proofs.laws.PermissionLaws.{lacks_bridge, lacks_near, lacks_vid}
use Rattle.running.proofs.permission.lacks_names.Goals as goal

pub returns-then-s-running : goal.returns-then-s-running
returns-then-s-running c =
    lacks_bridge (plan_at (words_of c.args.table.now) c.args.s) c.args.running c.args.name
    (omega (arith, bridges-counted c.requires, c.if-s-running.true))

pub returns-then-s-name : goal.returns-then-s-name
returns-then-s-name c =
    lacks_near (plan_at (words_of c.args.table.now) c.args.s) c.args.running c.args.name
    (omega (arith, bridges-counted c.requires, c.if-s-running.false)) (omega (arith, bridges-counted c.requires, c.if-s-name.true))

pub returns : goal.returns
returns c =
    lacks_vid (plan_at (words_of c.args.table.now) c.args.s) c.args.running c.args.name
    c.requires.laws _ c.index_of.ensures (omega (arith, bridges-counted c.requires, c.if-s-running.false))
    (omega (arith, bridges-counted c.requires, c.if-s-name.false))
