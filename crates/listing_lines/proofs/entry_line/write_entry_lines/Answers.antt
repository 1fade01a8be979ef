-- `listing_lines::entry_line::write_entry_lines` writes a line for each entry: those of the words passed are written. Assumes nothing.
use native.Mathlib.Omega.{arith}
use Rattle.listing_lines.proofs.laws.EntryLineLaws.{entry-listing-starts, entry-listing-room, entry-listing_goes_on, entry-listing_moved, entry-listing-ends}
use Rattle.listing_lines.proofs.entry_line.write_entry_lines.Goals as goal

pub loop-i-init : goal.loop-i-init
loop-i-init c = entry-listing-starts _ _ _ _

pub write_entry_line-next-requires : goal.write_entry_line-next-requires
write_entry_line-next-requires c = entry-listing-room c.loop-i.invariant c.requires (omega (arith, c.loop-i-test.true))

pub loop-i-preserved : goal.loop-i-preserved
loop-i-preserved c =
    let (written, write-entry-line-bound) = c.write_entry_line-next.ensures in
    entry-listing_moved (omega arith)
    (entry-listing_goes_on c.loop-i.invariant c.requires (omega (arith, c.loop-i-test.true)) _ _ written write-entry-line-bound)

pub returns : goal.returns
returns c = entry-listing-ends c.loop-i.invariant (omega (arith, c.loop-i-test.false))
