-- `entry_words::group::group_words` lists a port as soon as one receiver behind it is found: the loop over receivers is left for the next
-- port. Assumes nothing.
use native.Mathlib.Omega.{arith}
use mathlib.Core.Path.{refl}
use Rattle.lists.proofs.laws.AppendingLaws.{appending_length}
use Rattle.entry_words.proofs.laws.EntryWordLaws.{listing-starts, listing-ends, seeking_starts, seeking_goes_on, found-room, found-listed, none-listed}
use Rattle.entry_words.proofs.group.group_words.Goals as goal

pub ports-init : goal.ports-init
ports-init c =
    let (room, _) = c.requires in
    listing-starts _ _ _ _ _ _ room

pub loop-receiver_port-init : goal.loop-receiver_port-init
loop-receiver_port-init c = seeking_starts _ _ _ _

pub ports-preserved : goal.ports-preserved
ports-preserved c =
    none-listed c.loop-receiver_port.invariant c.ports.invariant c.ports-test.true refl c.loop-receiver_port-test.false

pub write_entry-end-requires : goal.write_entry-end-requires
write_entry-end-requires c =
    let (_, vid-bound) = c.requires in (
      found-room c.loop-receiver_port.invariant c.ports.invariant c.ports-test.true refl c.loop-receiver_port-test.true
          c.if-receiver_port-port.true,
      omega arith,
      vid-bound,
      omega (arith, c.from.ensures),
    )

pub ports-preserved-then-receiver_port-port : goal.ports-preserved-then-receiver_port-port
ports-preserved-then-receiver_port-port c =
    found-listed c.loop-receiver_port.invariant c.ports.invariant c.ports-test.true refl c.loop-receiver_port-test.true
    c.if-receiver_port-port.true c.from.ensures c.write_entry-end.ensures

pub loop-receiver_port-preserved : goal.loop-receiver_port-preserved
loop-receiver_port-preserved c = seeking_goes_on c.loop-receiver_port.invariant c.loop-receiver_port-test.true c.if-receiver_port-port.false

pub shape_of-words : goal.shape_of-words
shape_of-words c = appending_length c.ports.invariant.so_far

pub returns : goal.returns
returns c = listing-ends c.ports.invariant c.ports-test.false
