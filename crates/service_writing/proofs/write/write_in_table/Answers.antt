-- `service_writing::write::write_in_table` asks for the bridge and the VID before the members. Assumes nothing.
use Rattle.rule.specs.Refusals.{refused_by}
use Prim.Native.Nat.{ℕ}
use Rattle.lists.proofs.laws.AppendingLaws.{front_is}
use Rattle.rule.specs.Outcome.{Outcome}
use Rattle.rule.specs.Words.{words_of}
use Rattle.service_reading.proofs.laws.NamedLaws.{bridge_known, bridge-unknown, address_is, vid-below}
use Rattle.service_writing.proofs.laws.WritingLaws.{no_bridge_lem, no_vid_lem, both-known}
use Rattle.table.specs.Positions.{plan_at}
use lib.ListN.{length-take}
use mathlib.Core.Path.{sym, ap, ◌∙◌}
use native.Mathlib.Omega.{arith}
use Rattle.service_writing.proofs.write.write_in_table.Goals as goal

pub returns-then-s-bridge : goal.returns-then-s-bridge
returns-then-s-bridge c =
    ap (λ (o : Outcome ℕ). (o, c.args.bytes.now)) (c.from.ensures ∙ ap refused_by c.of_call.ensures)
    ∙ no_bridge_lem (plan_at (words_of c.args.table.now) c.args.s) c.args.bridge c.args.vid
    c.args.bytes.now (bridge-unknown c.requires _ c.if-s-bridge.true)

pub returns-then-not-has_vid : goal.returns-then-not-has_vid
returns-then-not-has_vid c =
    ap (λ (o : Outcome ℕ). (o, c.args.bytes.now)) (c.from-then-not-has_vid.ensures ∙ ap refused_by c.of_call-then-not-has_vid.ensures)
    ∙ no_vid_lem (plan_at (words_of c.args.table.now) c.args.s) c.args.bridge c.args.vid
    c.args.bytes.now (sym c.has_vid.ensures ∙ c.if-not-has_vid.true)

pub gather_services-count-requires : goal.gather_services-count-requires
gather_services-count-requires c = (c.requires, omega arith)

pub address_of-b_mac-requires : goal.address_of-b_mac-requires
address_of-b_mac-requires c = (c.requires, c.if-s-bridge.false)

pub slice_bounds-services-end : goal.slice_bounds-services-end
slice_bounds-services-end c =
    let (_, gather-services-bound) = c.gather_services-count.ensures in
    omega (arith, gather-services-bound)

pub slice_bounds-write_fitting-end : goal.slice_bounds-write_fitting-end
slice_bounds-write_fitting-end c =
    let (_, gather-services-bound) = c.gather_services-count.ensures in
    simp length-take (omega (arith, gather-services-bound))

pub write_fitting-requires : goal.write_fitting-requires
write_fitting-requires c =
    let (_, gather-services-bound) = c.gather_services-count.ensures in (
      simp length-take (omega (arith, gather-services-bound)),
      omega (arith, c.address_of-b_mac.ensures),
      vid-below c.requires c.args.vid (sym c.has_vid.ensures ∙ c.if-not-has_vid.false),
    )

pub returns : goal.returns
returns c =
    let (appended, _) = c.gather_services-count.ensures in
    both-known (plan_at (words_of c.args.table.now) c.args.s) c.args.bridge c.args.vid
    c.args.bytes.now (bridge_known c.requires _ c.if-s-bridge.false)
    (sym c.has_vid.ensures ∙ c.if-not-has_vid.false) _ _ _
    (c.address_of-b_mac.ensures ∙ address_is (words_of c.args.table.now) c.args.s _ c.if-s-bridge.false)
    (front_is appended) c.write_fitting.ensures
