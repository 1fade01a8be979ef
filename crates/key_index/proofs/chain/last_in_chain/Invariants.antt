-- What the loops of `key_index::chain::last_in_chain` keep true.
use Rattle.key_index.proofs.laws.IndexLaws.{Following}
use Rattle.key_index.proofs.chain.last_in_chain.Given as goal

abbrev pub invariant-loop-place : goal.invariant-loop-place
invariant-loop-place l = Following l.index l.count l.key l.from l.place

abbrev pub decreases-loop-place : goal.decreases-loop-place
decreases-loop-place l = l.place
