-- What the loops of `entry_rows::needed::keep_own_egress_rows` keep true.
use mathlib.Core.Path.{◌≡◌}
use lib.ListN.{length}
use Rattle.trees.specs.Store.{TreesKept}
use Rattle.entry_rows.proofs.laws.NeededLaws.{KeepingOwn}
use Rattle.entry_rows.proofs.needed.keep_own_egress_rows.Given as goal

abbrev pub invariant-loop-k : goal.invariant-loop-k
invariant-loop-k l = KeepingOwn l.table l.s l.network l.hops l.b l.initial.egress_rows l.egress_rows l.count l.k × (length l.path_ids ≡ length l.initial.path_ids) × (length l.store ≡ length l.initial.store)
    × TreesKept l.network l.store
