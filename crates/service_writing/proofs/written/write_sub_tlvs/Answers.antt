-- `service_writing::written::write_sub_tlvs` writes one sub-TLV after the other. Assumes nothing.
use Rattle.lists.proofs.laws.AppendingLaws.{appending_starts, appending_room, appending_goes_on, appending_length, appending_ends}
use Rattle.rule.specs.Services.{sub_tlvs}
use Rattle.service_writing.proofs.laws.WritingLaws.{begins-within, part_room, part_few, part_written}
use native.Mathlib.Omega.{arith}
use Rattle.service_writing.proofs.written.write_sub_tlvs.Goals as goal

pub loop-i-init : goal.loop-i-init
unfolding sub_tlvs
loop-i-init c =
    let room = c.requires.room in
    appending_starts _ _ _ _ room

pub overflow_mul-from : goal.overflow_mul-from
overflow_mul-from c =
    let (services-length, _, _) = c.requires.services_len_bound in
    omega (arith, c.loop-i-test.true, c.sub_tlv_count-count.ensures, services-length)

pub part_end-to-requires : goal.part_end-to-requires
part_end-to-requires c =
    let (services-length, _, _) = c.requires.services_len_bound in (
      begins-within c.args.services.now c.loop-i.i
          (omega (arith, c.loop-i-test.true, c.sub_tlv_count-count.ensures)),
      services-length,
    )

pub slice_bounds-write_sub_tlv-start : goal.slice_bounds-write_sub_tlv-start
slice_bounds-write_sub_tlv-start c =
    omega (
      arith,
      c.part_end-to.ensures,
      begins-within c.args.services.now c.loop-i.i
          (omega (arith, c.loop-i-test.true, c.sub_tlv_count-count.ensures)),
    )

pub slice_bounds-write_sub_tlv-end : goal.slice_bounds-write_sub_tlv-end
slice_bounds-write_sub_tlv-end c = omega (arith, c.part_end-to.ensures)

pub write_sub_tlv-at-requires : goal.write_sub_tlv-at-requires
write_sub_tlv-at-requires c =
    let (_, b-mac-bound, vid-bound) = c.requires.services_len_bound in
    let sub-tlv-count-ensures = c.sub_tlv_count-count.ensures in
    let loop-test-taken = c.loop-i-test.true in record {
      room = part_room c.args.b_mac c.args.vid c.args.services.now c.loop-i.i _
          c.part_end-to.ensures (omega (arith, loop-test-taken, sub-tlv-count-ensures)) c.loop-i.bytes c.loop-i.at
          (appending_room c.loop-i.invariant (omega (arith, loop-test-taken, sub-tlv-count-ensures)));
      services_len_bound = (
        part_few c.args.services.now c.loop-i.i _ c.part_end-to.ensures
            (omega (arith, loop-test-taken, sub-tlv-count-ensures)),
        b-mac-bound,
        vid-bound,
      );
    }

pub loop-i-preserved : goal.loop-i-preserved
loop-i-preserved c =
    appending_goes_on c.loop-i.invariant (omega (arith, c.loop-i-test.true, c.sub_tlv_count-count.ensures))
    (part_written c.args.b_mac c.args.vid c.args.services.now c.loop-i.i _
    c.part_end-to.ensures (omega (arith, c.loop-i-test.true, c.sub_tlv_count-count.ensures))
    c.write_sub_tlv-at.ensures)

pub shape_of-bytes : goal.shape_of-bytes
shape_of-bytes c = appending_length c.loop-i.invariant

pub returns : goal.returns
unfolding sub_tlvs
returns c =
    appending_ends c.loop-i.invariant (omega (arith, c.loop-i-test.false, c.sub_tlv_count-count.ensures))
