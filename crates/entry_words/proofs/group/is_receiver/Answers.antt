-- `entry_words::group::is_receiver` tests one field after the other. Assumes nothing.
use mathlib.Core.Path.{sym}
use borrow.Author.Tests.{not-true, not-false}
use Rattle.readers.specs.Readers.{member_values}
use Rattle.entry_words.proofs.laws.Receivers.{not_receiving, other-isid, other-vid, same_service}
use Rattle.entry_words.proofs.group.is_receiver.Goals as goal

pub returns-then-not-r : goal.returns-then-not-r
returns-then-not-r c =
    not_receiving (member_values c.args.m) (member_values c.args.r) (not-true _ c.if-not-r.true)

pub returns-then-r-m : goal.returns-then-r-m
returns-then-r-m c =
    other-isid (member_values c.args.m) (member_values c.args.r) (not-false _ c.if-not-r.false) c.if-r-m.true

pub returns-then-r-m-2 : goal.returns-then-r-m-2
returns-then-r-m-2 c =
    other-vid (member_values c.args.m) (member_values c.args.r) (not-false _ c.if-not-r.false) c.if-r-m.false
    c.if-r-m-2.true

pub returns : goal.returns
returns c =
    sym
    (same_service (member_values c.args.m) (member_values c.args.r) (not-false _ c.if-not-r.false)
    c.if-r-m.false c.if-r-m-2.false)
