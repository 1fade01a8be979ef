-- `egress::leaving::fill_row` passes the bridges in order, each after its next hop. Assumes nothing.
use native.Mathlib.Omega.{arith}
use mathlib.Core.Path.{refl, sym, ◌∙◌}
use Rattle.egress.proofs.laws.PassLaws.{passing-starts, passing-inside, passing_goes_on, passing-ends, passing-stops}
use Rattle.egress.proofs.leaving.fill_row.Goals as goal

pub clear-requires : goal.clear-requires
clear-requires c =
    let (_, _, _, row-length) = c.requires in
    omega (arith, row-length)

pub loop-k-init : goal.loop-k-init
loop-k-init c =
    let (labels-walkable, _, _, row-length) = c.requires in
    passing-starts _ _ labels-walkable row-length c.clear.ensures

pub offset_bounds-labels-k : goal.offset_bounds-labels-k
offset_bounds-labels-k c = omega (arith, c.loop-k.invariant.walkable.most, c.loop-k-test.true)

pub bounds-labels-k : goal.bounds-labels-k
bounds-labels-k c =
    let (_, labels-room, _, _) = c.requires in
    omega (arith, c.loop-k.invariant.walkable.most, c.loop-k-test.true, labels-room)

pub shape_of-row-then-d : goal.shape_of-row-then-d
shape_of-row-then-d c =
    let (_, _, _, row-length) = c.requires in
    c.loop-k.invariant.same_length ∙ sym row-length

pub returns-then-d : goal.returns-then-d
returns-then-d c = passing-stops c.loop-k.invariant refl c.if-d.true

pub overflow_cast-d : goal.overflow_cast-d
overflow_cast-d c =
    let (d-bound, _, _, _) = passing-inside c.loop-k.invariant c.loop-k-test.true _ refl c.if-d.false in
    omega (arith, d-bound)

pub write_port-requires : goal.write_port-requires
write_port-requires c =
    let (_, labels-room, hops-room, _) = c.requires in
    let (d-bound, next-bound, d-inside, next-inside) =
    passing-inside c.loop-k.invariant c.loop-k-test.true _ refl c.if-d.false in
    (d-bound, next-bound, labels-room, hops-room, d-inside, next-inside)

pub loop-k-preserved : goal.loop-k-preserved
loop-k-preserved c =
    passing_goes_on c.loop-k.invariant c.loop-k-test.true _ refl c.if-d.false c.write_port.ensures

pub shape_of-row : goal.shape_of-row
shape_of-row c =
    let (_, _, _, row-length) = c.requires in
    c.loop-k.invariant.same_length ∙ sym row-length

pub returns : goal.returns
returns c = passing-ends c.loop-k.invariant c.loop-k-test.false
