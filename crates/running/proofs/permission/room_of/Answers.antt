-- `running::permission::room_of` gives the least of three numbers. Assumes nothing.
use native.Mathlib.Omega.{arith}
use Rattle.running.proofs.laws.PermissionLaws.{least-of_three}
use Rattle.running.proofs.permission.room_of.Goals as goal

pub returns : goal.returns
returns c = least-of_three _ c.args.costs c.args.hops c.args.lasts (omega arith)
