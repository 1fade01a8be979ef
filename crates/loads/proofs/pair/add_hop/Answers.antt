-- `loads::pair::add_hop` adds at the place of the hop's pair. Assumes nothing.
use native.Mathlib.Omega.{arith}
use Rattle.loads.proofs.laws.PlaceLaws.{place-fits, place_added}
use Rattle.loads.proofs.pair.add_hop.Goals as goal

pub overflow_add-loads : goal.overflow_add-loads
overflow_add-loads c =
    let (place_is, _) = c.pair_place-place.ensures in
    let (_, _, _, room) = c.requires in
    omega (arith, place-fits c.args.loads.now _ _ _ _ place_is room)

pub returns : goal.returns
returns c =
    let (place_is, _) = c.pair_place-place.ensures in
    place_added c.args.loads.now _ _ c.args.amount _ place_is
