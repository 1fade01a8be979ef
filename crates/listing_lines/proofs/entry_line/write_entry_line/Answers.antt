-- `listing_lines::entry_line::write_entry_line` writes word, numbers, address and newline one after the other. Assumes nothing.
use Rattle.rule.specs.Lookup.{entry_of}
use Rattle.listing_lines.proofs.laws.EntryLineLaws.{before-newline, entry-line-written}
use native.Mathlib.Omega.{arith}
use Rattle.listing_lines.proofs.entry_line.write_entry_line.Goals as goal

pub write_byte-requires : goal.write_byte-requires
write_byte-requires c =
    omega (
      arith,
      before-newline _ _ _ _ c.write_word-after_word.ensures c.write_fields-after_numbers.ensures
          c.write_byte-after_space.ensures c.write_address-after_address.ensures,
    )

pub returns : goal.returns
returns c =
    let (vid-of-is, _) = c.vid_of.ensures in
    let (port-of-is, _) = c.port_of.ensures in
    entry-line-written c.args.bridge c.vid_of.result c.port_of.result
    c.address_of.result c.write_word-after_word.ensures c.write_fields-after_numbers.ensures
    c.write_byte-after_space.ensures c.write_address-after_address.ensures c.write_byte.ensures c.requires
    (entry_of c.args.first c.args.upper c.args.lower) vid-of-is port-of-is
    c.address_of.ensures
