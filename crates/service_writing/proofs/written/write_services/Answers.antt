-- `service_writing::written::write_services` writes the bytes of each service. Assumes nothing.
use Rattle.lists.proofs.laws.AppendingLaws.{appending_starts, appending_room, appending_goes_on, appending_length, appending_ends}
use Rattle.service_writing.proofs.laws.WritingLaws.{bytes_room, bytes_written}
use Rattle.service_writing.proofs.written.write_services.Goals as goal

pub loop-service-init : goal.loop-service-init
loop-service-init c =
    appending_starts _ _ _ _ (bytes_room c.args.services.now c.args.bytes.now c.args.at c.requires)

pub write_word-end-requires : goal.write_word-end-requires
write_word-end-requires c = appending_room c.loop-service.invariant c.loop-service-test.true

pub loop-service-preserved : goal.loop-service-preserved
loop-service-preserved c = appending_goes_on c.loop-service.invariant c.loop-service-test.true c.write_word-end.ensures

pub shape_of-bytes : goal.shape_of-bytes
shape_of-bytes c = appending_length c.loop-service.invariant

pub returns : goal.returns
returns c = bytes_written c.args.services.now (appending_ends c.loop-service.invariant c.loop-service-test.false)
