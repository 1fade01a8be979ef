-- What the loops of `lookup::list::matching` keep true.
use Prim.Native.Nat.{◌*◌}
use Rattle.lookup.proofs.laws.EntryListLaws.{Looking}
use Rattle.lookup.proofs.list.matching.Given as goal

abbrev pub invariant-loop-i : goal.invariant-loop-i
invariant-loop-i l = Looking l.list l.vid l.address l.n (3 * l.i) l.left
