-- What the loops of `entry_rows::needed::keep_egress_rows` keep true.
use mathlib.Core.Path.{◌≡◌}
use Prim.Native.Nat.{◌-◌}
use lib.ListN.{length}
use Rattle.trees.specs.Store.{TreesKept}
use Rattle.entry_rows.proofs.laws.NeededLaws.{KeepingMembers}
use Rattle.entry_rows.proofs.needed.keep_egress_rows.Given as goal

abbrev pub invariant-loop-j : goal.invariant-loop-j
invariant-loop-j l = KeepingMembers l.table l.s l.network l.hops l.b l.initial.egress_rows l.egress_rows l.count l.j × (length l.path_ids ≡ length l.initial.path_ids) × (length l.store ≡ length l.initial.store)
    × TreesKept l.network l.store

abbrev pub decreases-loop-j : goal.decreases-loop-j
decreases-loop-j l = l.s.members - l.j
