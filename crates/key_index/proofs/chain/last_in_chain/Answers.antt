-- `key_index::chain::last_in_chain` follows the chain until a place holds the key; places fall. Assumes nothing.
use native.Mathlib.Omega.{arith}
use Rattle.key_index.proofs.laws.IndexLaws.{follows, follows-to-none, follows-to-key, follows-less, follows_on}
use Rattle.key_index.proofs.chain.last_in_chain.Goals as goal

pub loop-place-init : goal.loop-place-init
loop-place-init c =
    let (_, in-chain) = c.requires in
    follows in-chain

pub returns-then-index-at : goal.returns-then-index-at
returns-then-index-at c = follows-to-key c.loop-place.invariant c.loop-place-test.true c.if-index-at.true

pub loop-place-smaller : goal.loop-place-smaller
loop-place-smaller c =
    let (indexed, _) = c.requires in
    follows-less c.loop-place.invariant indexed c.loop-place-test.true

pub loop-place-preserved : goal.loop-place-preserved
loop-place-preserved c =
    let (indexed, _) = c.requires in
    follows_on c.loop-place.invariant indexed c.loop-place-test.true c.if-index-at.false

pub returns : goal.returns
returns c = follows-to-none c.loop-place.invariant (omega arith)
