-- `entry_words::group::note_receiver` notes the port of a member that receives. Assumes nothing.
use native.Mathlib.Omega.{arith}
use mathlib.Core.Path.{sym, ap, ◌∙◌}
use Rattle.rule.specs.Words.{words_of}
use Rattle.rule.specs.Records.{Member}
use Rattle.readers.specs.Readers.{member_values}
use Rattle.entry_words.proofs.laws.Receivers.{member-bridge, not_noted, noted-room, noted}
use Rattle.entry_words.proofs.group.note_receiver.Goals as goal

pub returns-then-not-is_receiver : goal.returns-then-not-is_receiver
returns-then-not-is_receiver c =
    not_noted _ _ _ _ _ (member_values c.member-r.result) c.member-r.ensures
    (sym c.if-not-is_receiver.true ∙ c.is_receiver.ensures) _ _

pub bounds-egress_row-bridge : goal.bounds-egress_row-bridge
bounds-egress_row-bridge c =
    let (checked, j-bound, egress-row-room) = c.requires.checked in
    omega (
      arith,
      ap (λ (x : Member). x.bridge) c.member-r.ensures,
      member-bridge checked c.args.j j-bound,
      egress-row-room,
    )

pub bounds-behind-at : goal.bounds-behind-at
bounds-behind-at c =
    let room = c.requires.room in
    noted-room (words_of c.args.table.now) c.args.s c.args.egress_row.now
    (member_values c.args.m) c.args.j (member_values c.member-r.result) c.member-r.ensures
    (sym c.if-not-is_receiver.false ∙ c.is_receiver.ensures) c.args.behind.now c.args.at
    room

pub returns : goal.returns
returns c =
    let room = c.requires.room in
    noted _ _ _ _ _ (member_values c.member-r.result) c.member-r.ensures
    (sym c.if-not-is_receiver.false ∙ c.is_receiver.ensures) _ _
    (noted-room (words_of c.args.table.now) c.args.s c.args.egress_row.now
    (member_values c.args.m) c.args.j (member_values c.member-r.result) c.member-r.ensures
    (sym c.if-not-is_receiver.false ∙ c.is_receiver.ensures) c.args.behind.now
    c.args.at room)
