-- `entries::parts::transmitter_words` finds the ports behind which the receivers are and writes an entry for each. Assumes nothing.
use native.Mathlib.Omega.{arith}
use Prim.Native.Nat.{◌+◌, ◌≤◌}
use mathlib.Core.Path.{ap}
use lib.ListN.{length, length-take}
use Rattle.rule.specs.Records.{Bridge}
use Rattle.verdict.proofs.laws.CheckedLaws.{few-bridges}
use Rattle.entry_words.proofs.laws.Receivers.{behind-few}
use Rattle.entries.proofs.laws.PartLaws.{source_fits, row-lent, transmitter_room, transmitter_written}
use Rattle.entries.proofs.parts.transmitter_words.Goals as goal

pub group_address-address-requires : goal.group_address-address-requires
group_address-address-requires c =
    let (checked, _, _, _, _, bridge-bound, isid-bound) = c.requires.checked in (
      omega (arith, ap (λ (x : Bridge). x.sp_source_id) c.bridge-source.ensures, source_fits checked c.args.m.bridge bridge-bound),
      isid-bound,
    )

pub egress_row_at-place-requires : goal.egress_row_at-place-requires
egress_row_at-place-requires c =
    let (checked, egress-rows-inside, index-least, index-bound, _, bridge-bound, _) = c.requires.checked in
    (index-least, index-bound, omega (arith, bridge-bound, few-bridges checked), egress-rows-inside.has_slots)

pub offset_bounds-egress_rows-place : goal.offset_bounds-egress_rows-place
offset_bounds-egress_rows-place c =
    let row_inside : c.egress_row_at-place.result + 64 ≤ length c.args.egress_rows.now =
    let (_, egress-rows-inside, index-least, index-bound, _, bridge-bound, _) = c.requires.checked in
    omega (
      arith,
      c.egress_row_at-place.ensures,
      egress-rows-inside.inside c.args.v.index c.args.m.bridge index-least index-bound bridge-bound,
    ) in omega (arith, row_inside)

pub slice_bounds-ports_behind-count : goal.slice_bounds-ports_behind-count
slice_bounds-ports_behind-count c =
    let row_inside : c.egress_row_at-place.result + 64 ≤ length c.args.egress_rows.now =
    let (_, egress-rows-inside, index-least, index-bound, _, bridge-bound, _) = c.requires.checked in
    omega (
      arith,
      c.egress_row_at-place.ensures,
      egress-rows-inside.inside c.args.v.index c.args.m.bridge index-least index-bound bridge-bound,
    ) in omega (arith, row_inside)

pub slice_bounds-ports_behind-start : goal.slice_bounds-ports_behind-start
slice_bounds-ports_behind-start c =
    let row_inside : c.egress_row_at-place.result + 64 ≤ length c.args.egress_rows.now =
    let (_, egress-rows-inside, index-least, index-bound, _, bridge-bound, _) = c.requires.checked in
    omega (
      arith,
      c.egress_row_at-place.ensures,
      egress-rows-inside.inside c.args.v.index c.args.m.bridge index-least index-bound bridge-bound,
    ) in omega (arith, row_inside)

pub ports_behind-count-requires : goal.ports_behind-count-requires
ports_behind-count-requires c =
    let row_inside : c.egress_row_at-place.result + 64 ≤ length c.args.egress_rows.now =
    let (_, egress-rows-inside, index-least, index-bound, _, bridge-bound, _) = c.requires.checked in
    omega (
      arith,
      c.egress_row_at-place.ensures,
      egress-rows-inside.inside c.args.v.index c.args.m.bridge index-least index-bound bridge-bound,
    ) in let (checked, _, _, _, _, _, _) = c.requires.checked in (
      checked,
      row-lent c.args.egress_rows.now c.egress_row_at-place.result c.args.s.bridges
          row_inside (few-bridges checked),
      omega arith,
    )

pub slice_bounds-behind-end : goal.slice_bounds-behind-end
slice_bounds-behind-end c =
    let few-ports : c.ports_behind-count.result ≤ 64 =
    let (checked, _, _, _, _, _, _) = c.requires.checked in
    behind-few checked _ _ c.ports_behind-count.ensures in omega (arith, few-ports)

pub slice_bounds-group_words-end : goal.slice_bounds-group_words-end
slice_bounds-group_words-end c =
    let few-ports : c.ports_behind-count.result ≤ 64 =
    let (checked, _, _, _, _, _, _) = c.requires.checked in
    behind-few checked _ _ c.ports_behind-count.ensures in simp length-take (omega (arith, few-ports))

pub group_words-requires : goal.group_words-requires
group_words-requires c =
    let (_, _, _, _, vid-bound, _, _) = c.requires.checked in
    let room = c.requires.room in (
      transmitter_room _ _ _ _ _ _ _ c.egress_row_at-place.ensures _ _ _ c.ports_behind-count.ensures _
          (ap (λ (x : Bridge). x.sp_source_id) c.bridge-source.ensures) _ c.group_address-address.ensures
          c.args.words.now _ room,
      vid-bound,
    )

pub returns : goal.returns
returns c =
    transmitter_written _ _ _ _ _ _ _ c.egress_row_at-place.ensures _ _ _ c.ports_behind-count.ensures _
    (ap (λ (x : Bridge). x.sp_source_id) c.bridge-source.ensures) _ c.group_address-address.ensures
    c.group_words.ensures
