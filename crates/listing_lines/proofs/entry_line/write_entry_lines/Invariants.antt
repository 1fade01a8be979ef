-- What the loops of `listing_lines::entry_line::write_entry_lines` keep true.
use Prim.Native.Nat.{◌*◌}
use Rattle.listing_lines.proofs.laws.EntryLineLaws.{EntryListing}
use Rattle.listing_lines.proofs.entry_line.write_entry_lines.Given as goal

abbrev pub invariant-loop-i : goal.invariant-loop-i
invariant-loop-i l = EntryListing l.bridge l.words l.initial.out l.at l.out l.next (3 * l.i)
