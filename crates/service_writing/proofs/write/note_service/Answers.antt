-- `service_writing::write::note_service` notes the service of a record of the bridge and the VID. Assumes nothing.
use Rattle.readers.specs.Readers.{member_values}
use Rattle.rule.specs.Records.{Member}
use Rattle.rule.specs.Words.{words_of}
use Rattle.service_writing.proofs.laws.WritingLaws.{other-bridge, other-vid, service_room, service_noted, isid-fits}
use mathlib.Core.Path.{ap}
use native.Mathlib.Omega.{arith}
use Rattle.service_writing.proofs.write.note_service.Goals as goal

pub member-m-requires : goal.member-m-requires
member-m-requires c =
    let (checked, j-bound) = c.requires.checked in
    (checked.whole, j-bound)

pub returns-then-m-bridge : goal.returns-then-m-bridge
returns-then-m-bridge c =
    other-bridge _ _ _ _ _ (member_values c.member-m.result) c.member-m.ensures c.if-m-bridge.true _ _

pub returns-then-m-vid : goal.returns-then-m-vid
returns-then-m-vid c =
    other-vid _ _ _ _ _ (member_values c.member-m.result) c.member-m.ensures c.if-m-bridge.false c.if-m-vid.true _ _

pub service_of-requires : goal.service_of-requires
service_of-requires c =
    let (checked, j-bound) = c.requires.checked in
    omega (arith, ap (λ (x : Member). x.isid) c.member-m.ensures, isid-fits checked 0 0 c.args.j j-bound)

pub bounds-services-at : goal.bounds-services-at
bounds-services-at c =
    let room = c.requires.room in
    service_room (words_of c.args.table.now) c.args.s c.args.bridge c.args.vid
    c.args.j (member_values c.member-m.result) c.member-m.ensures c.if-m-bridge.false c.if-m-vid.false
    c.args.services.now c.args.at room

pub returns : goal.returns
returns c =
    let room = c.requires.room in
    service_noted _ _ _ _ _ (member_values c.member-m.result) c.member-m.ensures c.if-m-bridge.false
    c.if-m-vid.false _ _ _ c.service_of.ensures
    (service_room (words_of c.args.table.now) c.args.s c.args.bridge c.args.vid
    c.args.j (member_values c.member-m.result) c.member-m.ensures c.if-m-bridge.false
    c.if-m-vid.false c.args.services.now c.args.at room)
