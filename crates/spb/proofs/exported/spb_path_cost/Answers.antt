-- `spb::exported::spb_path_cost` gives the number of an accepted table's path, or of the verdict. Assumes nothing.
use Rattle.key_index.proofs.laws.IndexLaws.{no_keys_yet}
use Rattle.spb.proofs.laws.CallLaws.{cost-accepted, cost-refused}
use Rattle.spb.proofs.exported.spb_path_cost.Goals as goal

pub examine-examined-requires : goal.examine-examined-requires
examine-examined-requires c = no_keys_yet

pub path_cost_in_table-requires : goal.path_cost_in_table-requires
path_cost_in_table-requires c =
    let passed = c.examine-examined.ensures.passed in
    passed _ c.in-Ok.is

pub returns-in-Ok : goal.returns-in-Ok
returns-in-Ok c =
    let examine-is = c.examine-examined.ensures.result_value in
    cost-accepted c.args.table.now c.examine-examined.result examine-is _ c.in-Ok.is
    c.args.vid c.args.from c.args.to _ c.path_cost_in_table.ensures

pub returns-in-Err : goal.returns-in-Err
returns-in-Err c =
    let examine-is = c.examine-examined.ensures.result_value in
    cost-refused c.args.table.now c.examine-examined.result examine-is _ c.in-Err.is
    c.args.vid c.args.from c.args.to
