-- `entry_words::individual::write_individual` writes the entry for a bridge where the row has a port. Assumes nothing.
use native.Mathlib.Omega.{arith}
use Rattle.rule.specs.Words.{words_of}
use Rattle.readers.specs.Readers.{bridge_values}
use Rattle.entry_words.proofs.laws.EntryWordLaws.{no_individual, individual-room, individual-written}
use Rattle.entry_words.proofs.individual.write_individual.Goals as goal

pub returns-then-port-eq0 : goal.returns-then-port-eq0
returns-then-port-eq0 c =
    no_individual _ _ _ _ _ c.from-port.ensures c.if-port-eq0.true _ _

pub write_entry-requires : goal.write_entry-requires
write_entry-requires c =
    let (_, _, _, vid-bound) = c.requires.checked in
    let room = c.requires.room in (
      individual-room (words_of c.args.table.now) c.args.egress_row.now c.args.vid c.args.d
          c.from-port.result c.from-port.ensures c.if-port-eq0.false (bridge_values c.bridge-address.result) c.bridge-address.ensures
          c.args.words.now c.args.at room,
      omega arith,
      vid-bound,
      omega (arith, c.from-port.ensures),
    )

pub returns : goal.returns
returns c =
    individual-written _ _ _ _ _ c.from-port.ensures c.if-port-eq0.false (bridge_values c.bridge-address.result) c.bridge-address.ensures
    c.write_entry.ensures
