-- `service_writing::write::write_fitting` refuses a list that is too short and writes to one that is not. Assumes nothing.
use Rattle.rule.specs.Refusals.{refused_by}
use Prim.Native.Nat.{ℕ}
use Rattle.rule.specs.Outcome.{Outcome}
use Rattle.rule.specs.Services.{sub_tlvs}
use Rattle.rule.proofs.laws.CallLaws.{fits_not}
use Rattle.service_writing.proofs.laws.WritingLaws.{needed_is, all-written}
use mathlib.Core.Path.{ap, ◌∙◌}
use native.Mathlib.Omega.{arith}
use Rattle.service_writing.proofs.write.write_fitting.Goals as goal

pub returns-then-bytes-needed : goal.returns-then-bytes-needed
returns-then-bytes-needed c =
    ap (λ (o : Outcome ℕ). (o, c.args.bytes.now)) (c.from.ensures ∙ ap refused_by c.of_call.ensures)
    ∙ fits_not (sub_tlvs c.args.b_mac c.args.vid c.args.services.now) c.args.bytes.now
    (omega (
      arith,
      c.if-bytes-needed.true,
      needed_is c.args.b_mac c.args.vid c.args.services.now _
          c.sub_tlv_count.ensures,
    ))

pub write_sub_tlvs-requires : goal.write_sub_tlvs-requires
write_sub_tlvs-requires c =
    let (services-length, b-mac-bound, vid-bound) = c.requires in record {
      room = omega (
        arith,
        c.if-bytes-needed.false,
        needed_is c.args.b_mac c.args.vid c.args.services.now _ c.sub_tlv_count.ensures,
      );
      services_len_bound = (services-length, b-mac-bound, vid-bound);
    }

pub returns : goal.returns
returns c =
    all-written (sub_tlvs c.args.b_mac c.args.vid c.args.services.now) c.args.bytes.now _
    (needed_is c.args.b_mac c.args.vid c.args.services.now _ c.sub_tlv_count.ensures)
    c.if-bytes-needed.false c.write_sub_tlvs.ensures.words_are
