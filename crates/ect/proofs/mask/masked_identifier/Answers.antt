-- `ect::mask::masked_identifier` masks all eight bytes: one XOR with the mask spread over them. Assumes nothing.
use native.Mathlib.Omega.{arith}
use mathlib.Core.Path.{◌∙◌, ap}
use lib.Bits.{bit_xor}
use Rattle.ect.proofs.laws.MaskLaws.{eight_bytes}
use Rattle.ect.proofs.mask.masked_identifier.Goals as goal

pub returns : goal.returns
returns c =
    ap (bit_xor c.args.identifier) c.spread_mask.ensures
    ∙ eight_bytes c.args.mask c.args.identifier (omega arith) (omega arith)
