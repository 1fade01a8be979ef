-- What the loops of `runs::run::read_half_links` keep true.
use Prim.Native.Nat.{◌-◌}
use lib.ListN.{length}
use Rattle.rule.specs.Words.{words_of}
use Rattle.table.specs.Positions.{words_read}
use Rattle.steps.specs.Steps.{HalfLinkIndexes}
use Rattle.runs.proofs.laws.RunLaws.{Running}
use Rattle.runs.proofs.run.read_half_links.Given as goal

abbrev pub invariant-loop-port_index : goal.invariant-loop-port_index
invariant-loop-port_index l = Running (words_of l.table) 2 l.initial.t l.t × HalfLinkIndexes l.port_index l.link_index (words_of l.table) l.t

abbrev pub decreases-loop-port_index : goal.decreases-loop-port_index
decreases-loop-port_index l = length (words_of l.table) - words_read l.t
