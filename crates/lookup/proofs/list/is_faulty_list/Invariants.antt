-- What the loops of `lookup::list::is_faulty_list` keep true.
use Prim.Native.Nat.{◌*◌}
use Rattle.lookup.proofs.laws.EntryListLaws.{Testing}
use Rattle.lookup.proofs.list.is_faulty_list.Given as goal

abbrev pub invariant-loop-i : goal.invariant-loop-i
invariant-loop-i l = Testing l.list (3 * l.i)
