-- `running::permission::permit_in_table` tests a change in the order of its refusals. Assumes nothing.
use native.Mathlib.Omega.{arith}
use mathlib.Core.Path.{sym, ◌∙◌}
use Rattle.rule.specs.Words.{words_of}
use Rattle.rule.specs.Refusals.{refused_by}
use Rattle.table.specs.Positions.{plan_at}
use Rattle.verdict.proofs.laws.CheckedLaws.{bridges-counted}
use Rattle.running.proofs.laws.PermissionLaws.{was-false, was-true, links-counted, is_11, is_17, is_18, is_19, is_13, is_permitted}
use Rattle.std.proofs.Common.{ap}
use Rattle.std.specs.Prelude.{not}
use Rattle.running.proofs.permission.permit_in_table.Goals as goal

pub returns-then-lacks_names : goal.returns-then-lacks_names
returns-then-lacks_names c =
    ap refused_by c.of_call.ensures
    ∙ is_11 (plan_at (words_of c.args.table.now) c.args.s) c.args.running c.args.name
    c.args.fits c.args.room (sym c.lacks_names.ensures ∙ c.if-lacks_names.true)

pub returns-then-s-i : goal.returns-then-s-i
returns-then-s-i c =
    ap refused_by c.of_call-then-s-i.ensures
    ∙ is_17 (plan_at (words_of c.args.table.now) c.args.s) c.args.running c.args.name
    c.args.fits c.args.room (sym c.lacks_names.ensures ∙ c.if-lacks_names.false) _
    c.find_half_link-i.ensures
    (omega (arith, links-counted (words_of c.args.table.now) c.args.s, c.if-s-i.true))

pub returns-then-not-fits : goal.returns-then-not-fits
returns-then-not-fits c =
    ap refused_by c.of_call-then-not-fits.ensures
    ∙ is_18 (plan_at (words_of c.args.table.now) c.args.s) c.args.running c.args.name
    c.args.fits c.args.room (sym c.lacks_names.ensures ∙ c.if-lacks_names.false) _
    c.find_half_link-i.ensures
    (omega (arith, links-counted (words_of c.args.table.now) c.args.s, c.if-s-i.false))
    (was-false c.args.fits (ap not c.if-not-fits.true))

pub returns-then-running-ge-MOST_CHANGES : goal.returns-then-running-ge-MOST_CHANGES
returns-then-running-ge-MOST_CHANGES c =
    ap refused_by c.of_call-then-running-ge-MOST_CHANGES.ensures
    ∙ is_19 (plan_at (words_of c.args.table.now) c.args.s) c.args.running c.args.name
    c.args.fits c.args.room (sym c.lacks_names.ensures ∙ c.if-lacks_names.false) _
    c.find_half_link-i.ensures
    (omega (arith, links-counted (words_of c.args.table.now) c.args.s, c.if-s-i.false))
    (was-true c.args.fits (ap not c.if-not-fits.false)) c.if-running-ge-MOST_CHANGES.true

pub returns-then-room-s : goal.returns-then-room-s
returns-then-room-s c =
    ap refused_by c.of_call-then-room-s.ensures
    ∙ is_13 (plan_at (words_of c.args.table.now) c.args.s) c.args.running c.args.name
    c.args.fits c.args.room (sym c.lacks_names.ensures ∙ c.if-lacks_names.false) _
    c.find_half_link-i.ensures
    (omega (arith, links-counted (words_of c.args.table.now) c.args.s, c.if-s-i.false))
    (was-true c.args.fits (ap not c.if-not-fits.false)) (omega (arith, c.if-running-ge-MOST_CHANGES.false))
    (omega (arith, bridges-counted c.requires, c.if-room-s.true))

pub returns : goal.returns
returns c =
    is_permitted (plan_at (words_of c.args.table.now) c.args.s) c.args.running c.args.name
    c.args.fits c.args.room (sym c.lacks_names.ensures ∙ c.if-lacks_names.false) _
    c.find_half_link-i.ensures
    (omega (arith, links-counted (words_of c.args.table.now) c.args.s, c.if-s-i.false))
    (was-true c.args.fits (ap not c.if-not-fits.false)) (omega (arith, c.if-running-ge-MOST_CHANGES.false))
    (omega (arith, bridges-counted c.requires, c.if-room-s.false)) _
    (omega (arith, bridges-counted c.requires, c.half_links_from.ensures))
