-- `service_writing::written::write_sub_tlv` writes the head, then the services. Assumes nothing.
use Rattle.service_writing.proofs.laws.WritingLaws.{head_room, services-after_head, sub_tlv_written}
use Rattle.service_writing.proofs.written.write_sub_tlv.Goals as goal

pub write_head-after_head-requires : goal.write_head-after_head-requires
write_head-after_head-requires c =
    let room = c.requires.room in
    let (services-length, b-mac-bound, vid-bound) = c.requires.services_len_bound in (
      head_room c.args.b_mac c.args.vid c.args.services.now c.args.bytes.now
          c.args.at room,
      services-length,
      b-mac-bound,
      vid-bound,
    )

pub write_services-requires : goal.write_services-requires
write_services-requires c =
    let room = c.requires.room in
    services-after_head c.args.b_mac c.args.vid c.args.services.now c.args.bytes.now
    c.args.at room c.write_head-after_head.ensures

pub returns : goal.returns
returns c =
    let room = c.requires.room in
    sub_tlv_written c.args.b_mac c.args.vid c.args.services.now c.args.bytes.now
    c.args.at room c.write_head-after_head.ensures c.write_services.ensures
