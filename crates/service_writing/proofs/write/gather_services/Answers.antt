-- `service_writing::write::gather_services` notes the services record after record. Assumes nothing.
use Rattle.lists.proofs.laws.AppendingLaws.{appending_starts, appending_room, appending_goes_on, appending_length, appending_ends}
use Rattle.service_writing.proofs.laws.WritingLaws.{services-room, services_gathered}
use Rattle.service_writing.proofs.write.gather_services.Goals as goal

pub loop-j-init : goal.loop-j-init
loop-j-init c =
    let (checked, the-services-room) = c.requires in
    appending_starts _ _ _ _
    (services-room checked c.args.bridge c.args.vid c.args.services.now the-services-room)

pub note_service-at-requires : goal.note_service-at-requires
note_service-at-requires c =
    let (checked, _) = c.requires in record {
      checked = (checked, c.loop-j-test.true);
      room = appending_room c.loop-j.invariant c.loop-j-test.true;
    }

pub loop-j-preserved : goal.loop-j-preserved
loop-j-preserved c = appending_goes_on c.loop-j.invariant c.loop-j-test.true c.note_service-at.ensures

pub shape_of-services : goal.shape_of-services
shape_of-services c = appending_length c.loop-j.invariant

pub returns : goal.returns
returns c =
    let (checked, _) = c.requires in
    services_gathered checked c.args.bridge c.args.vid (appending_ends c.loop-j.invariant c.loop-j-test.false)
