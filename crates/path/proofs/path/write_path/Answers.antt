-- `path::path::write_path` follows next hops. Assumes nothing.
use native.Mathlib.Omega.{arith}
use Rattle.path.proofs.laws.FollowedLaws.{following_starts, following_inside, following_on, following_ends}
use Rattle.path.proofs.path.write_path.Goals as goal

pub loop-i-init : goal.loop-i-init
loop-i-init c = following_starts _ _ _ _

pub bounds-list-i : goal.bounds-list-i
bounds-list-i c =
    let (_, _, list-room) = c.requires in
    omega (arith, list-room, c.loop-i.invariant.same_length, c.loop-i-test.true)

pub overflow_cast-u : goal.overflow_cast-u
overflow_cast-u c =
    let (_, inside, _) = c.requires in
    omega (arith, following_inside c.loop-i.invariant inside c.loop-i-test.true)

pub next_number-u-requires : goal.next_number-u-requires
next_number-u-requires c =
    let (labels-room, inside, _) = c.requires in
    omega (arith, labels-room, following_inside c.loop-i.invariant inside c.loop-i-test.true)

pub loop-i-preserved : goal.loop-i-preserved
loop-i-preserved c =
    let (_, _, list-room) = c.requires in
    following_on c.loop-i.invariant _ list-room c.loop-i-test.true c.next_number-u.ensures

pub returns : goal.returns
returns c = following_ends c.loop-i.invariant c.loop-i-test.false
