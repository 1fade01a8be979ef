-- `key_index::chain::place_before` follows the chain from the place on. Assumes nothing.
use mathlib.Core.Path.{◌∙◌}
use Rattle.key_index.proofs.laws.IndexLaws.{goes_back}
use Rattle.key_index.proofs.chain.place_before.Goals as goal

pub last_in_chain-requires : goal.last_in_chain-requires
last_in_chain-requires c =
    let (indexed, place-least, place-bound) = c.requires in
    (indexed, (goes_back indexed c.args.place place-least place-bound).0)

pub returns : goal.returns
returns c =
    let (indexed, place-least, place-bound) = c.requires in
    c.last_in_chain.ensures ∙ (goes_back indexed c.args.place place-least place-bound).1
