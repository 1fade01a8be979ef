-- `network::hops::offer_half_link` keeps the lesser hop in the row, and lists the far bridge where this is the first hop to it. Assumes nothing.
use Prim.Native.Nat.{◌<◌}
use native.Mathlib.Omega.{arith}
use Rattle.readers.specs.Readers.{half_link_values}
use Rattle.links.proofs.laws.HopLaws.{far-inside}
use Rattle.network.proofs.laws.RowLaws.{nothing-taken, taken_again, taken-first}
use Rattle.network.proofs.hops.offer_half_link.Goals as goal

pub returns-then-hop-ge-NO_HOP : goal.returns-then-hop-ge-NO_HOP
returns-then-hop-ge-NO_HOP c = nothing-taken _ c.hop_of-hop.ensures c.if-hop-ge-NO_HOP.true

pub half_link-far-requires : goal.half_link-far-requires
half_link-far-requires c =
    let (checked, _, i-bound, _, _, _) = c.requires in
    (checked.whole, i-bound)

pub bounds-row-far : goal.bounds-row-far
bounds-row-far c =
    let far-in-row : c.half_link-far.result.far < 64 =
    let (checked, _, i-bound, _, _, _) = c.requires in
    far-inside checked c.args.i i-bound (half_link_values c.half_link-far.result) c.half_link-far.ensures in let (_, _, _, row-length, _, _) = c.requires in
    omega (arith, row-length, far-in-row)

pub bounds-row-far-2 : goal.bounds-row-far-2
bounds-row-far-2 c =
    let far-in-row : c.half_link-far.result.far < 64 =
    let (checked, _, i-bound, _, _, _) = c.requires in
    far-inside checked c.args.i i-bound (half_link_values c.half_link-far.result) c.half_link-far.ensures in let (_, _, _, row-length, _, _) = c.requires in
    omega (arith, row-length, far-in-row)

pub returns-then-known-lt-NO_HOP : goal.returns-then-known-lt-NO_HOP
returns-then-known-lt-NO_HOP c =
    taken_again _ c.hop_of-hop.ensures c.if-hop-ge-NO_HOP.false c.half_link-far.ensures c.min.ensures
    (omega (arith, c.if-known-lt-NO_HOP.true))

pub returns : goal.returns
returns c =
    taken-first _ c.hop_of-hop.ensures c.if-hop-ge-NO_HOP.false c.half_link-far.ensures c.min.ensures
    (omega (arith, c.if-known-lt-NO_HOP.false))
