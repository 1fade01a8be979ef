-- `network::bridges::write_keys` writes the masked identifier of each bridge. Assumes nothing.
use Prim.Native.Nat.{ℕ}
use mathlib.Core.Path.{ap, ◌∙◌}
use Rattle.rule.specs.Identifiers.{masked_bytes}
use native.Mathlib.Omega.{arith}
use Rattle.network.proofs.laws.BridgeLaws.{masking_starts, masking_on, masking_ends}
use Rattle.network.proofs.bridges.write_keys.Goals as goal

pub loop-u-init : goal.loop-u-init
loop-u-init c = masking_starts _ _ _

pub loop-u-preserved : goal.loop-u-preserved
loop-u-preserved c =
    let (_, _, keys-room) = c.requires in
    masking_on c.loop-u.invariant keys-room _ (omega (arith, c.bridges-n.ensures))
    (c.masked_identifier.ensures ∙ ap (λ (x : ℕ). masked_bytes 8 c.args.mask x) c.identifier.ensures)

pub returns : goal.returns
returns c =
    let (_, _, keys-room) = c.requires in
    masking_ends c.loop-u.invariant keys-room (omega (arith, c.bridges-n.ensures))
