-- `text::fields::write_fields` writes field after field. Assumes nothing.
use native.Mathlib.Omega.{arith}
use Rattle.text.proofs.laws.TextLaws.{fielding_starts, fielding_goes_on, fielding_room, fielding_ends}
use Rattle.text.proofs.fields.write_fields.Goals as goal

pub loop-n-init : goal.loop-n-init
loop-n-init c = fielding_starts _ _ _

pub write_field-next-requires : goal.write_field-next-requires
write_field-next-requires c =
    omega (arith, c.loop-n.invariant.room, c.loop-n.invariant.same_length, c.requires, c.loop-n-test.true)

pub loop-n-preserved : goal.loop-n-preserved
loop-n-preserved c =
    let (written, _) = c.write_field-next.ensures in
    fielding_goes_on c.loop-n.invariant c.requires c.loop-n-test.true _ _ written

pub shape_of-out : goal.shape_of-out
shape_of-out c = c.loop-n.invariant.same_length

pub returns : goal.returns
returns c =
    (fielding_ends c.loop-n.invariant c.loop-n-test.false, fielding_room c.loop-n.invariant c.loop-n-test.false)
