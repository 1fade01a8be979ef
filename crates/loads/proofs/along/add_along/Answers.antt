-- `loads::along::add_along` adds hop after hop. Assumes nothing.
use Prim.Native.Nat.{◌-◌}
use native.Mathlib.Omega.{arith}
use mathlib.Core.Path.{refl}
use Rattle.loads.proofs.laws.AlongLaws.{going_starts, hop-fits, going_on, going_ends}
use Rattle.loads.proofs.along.add_along.Goals as goal

pub loop-passed-init : goal.loop-passed-init
loop-passed-init c =
    let (_, passes-once) = c.requires.in_bounds in
    (c.args.hops, omega arith, going_starts _ _ _ _ _ passes-once)

pub next_at-v-requires : goal.next_at-v-requires
next_at-v-requires c =
    let (labels-room, _) = c.requires.in_bounds in
    let (_, room) = c.requires.in_bounds_2 in
    let (left, left-is, going) = c.loop-passed.invariant in
    let (here-inside, _, _) = hop-fits going (omega (arith, left-is, c.loop-passed-test.true)) room _ refl in
    omega (arith, labels-room, here-inside)

pub add_hop-requires : goal.add_hop-requires
add_hop-requires c =
    let (loads-room, room) = c.requires.in_bounds_2 in
    let (left, left-is, going) = c.loop-passed.invariant in
    let (here-inside, next-inside, fits) =
    hop-fits going (omega (arith, left-is, c.loop-passed-test.true)) room _ c.next_at-v.ensures in
    (omega (arith, loads-room, going.same_length), here-inside, next-inside, fits)

pub loop-passed-preserved : goal.loop-passed-preserved
loop-passed-preserved c =
    let (loads-room, _) = c.requires.in_bounds_2 in
    let (left, left-is, going) = c.loop-passed.invariant in (
      left - 1,
      omega (arith, left-is, c.loop-passed-test.true),
      going_on going (omega (arith, left-is, c.loop-passed-test.true)) _ c.next_at-v.ensures loads-room _ c.add_hop.ensures,
    )

pub shape_of-loads : goal.shape_of-loads
shape_of-loads c =
    let (_, _, going) = c.loop-passed.invariant in
    going.same_length

pub returns : goal.returns
returns c =
    let (left, left-is, going) = c.loop-passed.invariant in
    going_ends going (omega (arith, left-is, c.loop-passed-test.false, c.loop-passed.auto._passed-end))
