-- `running::calls::table_length` takes no more bytes than there are. Assumes nothing.
use native.Mathlib.Omega.{arith}
use Rattle.running.proofs.laws.CallLaws.{front-lesser}
use Rattle.running.proofs.calls.table_length.Goals as goal

pub returns : goal.returns
returns c = (omega arith, front-lesser _ c.args.running.length c.args.bytes (omega arith))
