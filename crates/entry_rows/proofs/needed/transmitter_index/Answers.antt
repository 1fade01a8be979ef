-- `entry_rows::needed::transmitter_index` finds the index of the member's VID where the member transmits. Assumes nothing.
use mathlib.Core.Path.{sym, ap, ◌∙◌}
use mathlib.Core.Bool.{Bool, cond}
use borrow.Author.Tests.{not-true, not-false}
use Rattle.rule.specs.Words.{words_of}
use Rattle.rule.specs.Plan.{vid_record}
use Rattle.table.specs.Positions.{plan_at}
use Rattle.table.specs.Numbered.{index_of}
use Rattle.entry_rows.proofs.needed.transmitter_index.Goals as goal

pub returns-then-not-m : goal.returns-then-not-m
returns-then-not-m c =
    sym
    (ap
    (λ (b : Bool).
    cond b (index_of (vid_record (plan_at (words_of c.args.table.now) c.args.s) c.args.m.vid)) 0)
    (not-true c.args.m.transmits c.if-not-m.true))

pub returns : goal.returns
returns c =
    c.index_of.ensures
    ∙ sym
    (ap
    (λ (b : Bool).
    cond b (index_of (vid_record (plan_at (words_of c.args.table.now) c.args.s) c.args.m.vid)) 0)
    (not-false c.args.m.transmits c.if-not-m.false))
