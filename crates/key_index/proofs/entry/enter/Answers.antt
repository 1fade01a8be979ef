-- `key_index::entry::enter` stores the key, its chain's last place and the new last place. Assumes nothing.
use native.Mathlib.Omega.{arith}
use lib.ListN.{length-set}
use Rattle.key_index.proofs.laws.IndexLaws.{entered_in}
use Rattle.key_index.proofs.entry.enter.Goals as goal

pub bounds-index-count-2 : goal.bounds-index-count-2
bounds-index-count-2 c = simp length-set (omega arith)

pub bounds-index-chain-2 : goal.bounds-index-chain-2
bounds-index-chain-2 c = simp length-set (omega arith)

pub returns : goal.returns
returns c =
    let (chain-of-is, _) = c.chain_of-chain.ensures in
    let (indexed, count-bound) = c.requires in
    entered_in indexed count-bound c.args.key c.chain_of-chain.result chain-of-is
