-- `tree::settle::clear` clears the labels in one fill. Assumes nothing.
use native.Mathlib.Omega.{arith}
use Rattle.std.proofs.Common.{sym}
use Rattle.std.proofs.lemmas.List.{length-take-le}
use Rattle.tree.proofs.laws.SettlingLaws.{front_filled}
use Rattle.tree.proofs.settle.clear.Goals as goal

pub slice_bounds-fill-end-2 : goal.slice_bounds-fill-end-2
slice_bounds-fill-end-2 c = sym (length-take-le 128 c.args.labels.now (omega (arith, c.requires)))

pub returns : goal.returns
returns c = front_filled c.args.labels.now c.fill.new.self c.requires (c.fill.ensures.after (λ y h. h))
