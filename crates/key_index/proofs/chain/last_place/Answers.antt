-- `key_index::chain::last_place` follows the whole chain of the key. Assumes nothing.
use mathlib.Core.Path.{◌∙◌}
use Rattle.key_index.proofs.laws.IndexLaws.{begins}
use Rattle.key_index.proofs.chain.last_place.Goals as goal

pub last_in_chain-requires : goal.last_in_chain-requires
last_in_chain-requires c =
    let (chain-of-is, _) = c.chain_of-chain.ensures in
    (c.requires, (begins c.requires c.args.key c.chain_of-chain.result chain-of-is).0)

pub returns : goal.returns
returns c =
    let (chain-of-is, _) = c.chain_of-chain.ensures in
    c.last_in_chain.ensures ∙ (begins c.requires c.args.key c.chain_of-chain.result chain-of-is).1
