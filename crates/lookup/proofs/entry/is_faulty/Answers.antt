-- `lookup::entry::is_faulty` finds what 14 calls a fault of one entry: each test of the code is one of `faulty_entry`. Assumes nothing.
use native.Mathlib.Omega.{arith}
use mathlib.Core.Path.{sym}
use Rattle.rule.specs.Words.{bits}
use Rattle.rule.specs.Lookup.{entry_of}
use Rattle.lookup.proofs.laws.EntryLaws.{vid_outside, port_outside, zero-bit-set, by_group-bit}
use Rattle.lookup.proofs.entry.is_faulty.Goals as goal

pub returns-then-not-within : goal.returns-then-not-within
returns-then-not-within c =
    let (vid-of-is, _) = c.vid_of.ensures in
    sym
    (vid_outside (entry_of c.args.first c.args.upper c.args.lower) (bits c.args.upper 31 16)
    c.within.result c.vid_of.result c.within.ensures vid-of-is c.if-not-within.true)

pub returns-then-not-within-2 : goal.returns-then-not-within-2
returns-then-not-within-2 c =
    let (port-of-is, _) = c.port_of.ensures in
    sym
    (port_outside (entry_of c.args.first c.args.upper c.args.lower) (bits c.args.upper 31 16)
    c.within-2.result c.port_of.result c.within-2.ensures port-of-is c.if-not-within-2.true)

pub returns-then-zero_bits_of-ne0 : goal.returns-then-zero_bits_of-ne0
returns-then-zero_bits_of-ne0 c =
    sym
    (zero-bit-set (entry_of c.args.first c.args.upper c.args.lower) (bits c.args.upper 31 16)
    (λ e. c.if-zero_bits_of-ne0.true (omega arith)))

pub returns : goal.returns
returns c =
    let (vid-of-is, _) = c.vid_of.ensures in
    let (port-of-is, _) = c.port_of.ensures in
    sym
    (by_group-bit (entry_of c.args.first c.args.upper c.args.lower) (bits c.args.upper 31 16) _
    _ _ _ c.within.ensures vid-of-is c.if-not-within.false c.within-2.ensures port-of-is
    c.if-not-within-2.false (omega (arith, c.zero_bits_of.ensures, c.if-zero_bits_of-ne0.false)) _ _ (omega arith)
    c.kind_of.ensures)
