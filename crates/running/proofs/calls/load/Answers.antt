-- `running::calls::load` keeps a table as it is lent. Assumes nothing.
use Rattle.running.proofs.laws.CallLaws.{load_is}
use Rattle.running.proofs.calls.load.Goals as goal

pub returns : goal.returns
returns c = load_is c.args.table.now c.args.bridge c.args.vid _ _ _ _ c.keep.ensures
