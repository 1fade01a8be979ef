-- `earlier::half_link::is_wrong_link` asks the index for the half-links of the link number, the last first. Assumes nothing.
use Prim.Native.Nat.{◌+◌, ◌*◌, ◌-◌}
use native.Mathlib.Omega.{arith}
use mathlib.Core.Path.{refl}
use Rattle.key_index.specs.Index.{holds}
use Rattle.key_index.proofs.laws.PlaceLaws.{last_within}
use Rattle.readers.specs.Readers.{half_link_values}
use Rattle.earlier.proofs.laws.HalfLinkLaws.{first_of_number, third_of_number, second_of_number}
use Rattle.earlier.proofs.half_link.is_wrong_link.Goals as goal

pub returns-then-place-eq0 : goal.returns-then-place-eq0
returns-then-place-eq0 c =
    let (_, keyed) = c.requires in
    first_of_number keyed (half_link_values c.args.h) c.last_place-place.result c.last_place-place.ensures
    c.if-place-eq0.true

pub place_before-requires : goal.place_before-requires
place_before-requires c =
    let (_, keyed) = c.requires in (
      keyed.indexed,
      omega arith,
      omega (
        arith,
        c.last_place-place.ensures,
        last_within (holds c.args.link_index.now c.args.h.link) c.args.count,
      ),
    )

pub returns-then-place_before-ne0 : goal.returns-then-place_before-ne0
returns-then-place_before-ne0 c =
    let (_, keyed) = c.requires in
    third_of_number keyed (half_link_values c.args.h) c.last_place-place.result c.last_place-place.ensures
    c.if-place-eq0.false c.place_before.result c.place_before.ensures c.if-place_before-ne0.true

pub half_link_at-requires : goal.half_link_at-requires
half_link_at-requires c =
    omega (
      arith,
      c.last_place-place.ensures,
      last_within (holds c.args.link_index.now c.args.h.link) c.args.count,
    )

pub returns : goal.returns
returns c =
    let (_, keyed) = c.requires in
    second_of_number keyed (half_link_values c.args.h) c.last_place-place.result c.last_place-place.ensures
    c.if-place-eq0.false c.place_before.result c.place_before.ensures c.if-place_before-ne0.false
    (c.args.from + 3 * (c.last_place-place.result - 1)) refl (half_link_values c.half_link_at.result)
    c.half_link_at.ensures c.is_mirror.result c.is_mirror.ensures
