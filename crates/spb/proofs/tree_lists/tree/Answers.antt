-- `spb::tree_lists::tree` asks the places of an accepted table, or passes the refusal of the verdict on. Assumes nothing.
use Rattle.key_index.proofs.laws.IndexLaws.{no_keys_yet}
use Rattle.spb.proofs.laws.CallLaws.{tree-accepted, tree-refused}
use Rattle.spb.proofs.tree_lists.tree.Goals as goal

pub examine-examined-requires : goal.examine-examined-requires
examine-examined-requires c = no_keys_yet

pub tree_in_table-requires : goal.tree_in_table-requires
tree_in_table-requires c =
    let passed = c.examine-examined.ensures.passed in
    passed _ c.in-Ok.is

pub returns-in-Ok : goal.returns-in-Ok
returns-in-Ok c =
    let examine-is = c.examine-examined.ensures.result_value in
    tree-accepted c.args.table.now c.examine-examined.result examine-is _ c.in-Ok.is
    c.args.vid c.args.from c.args.costs.now c.args.hops.now c.args.lasts.now _
    c.tree_in_table.ensures

pub returns-in-Err : goal.returns-in-Err
returns-in-Err c =
    let examine-is = c.examine-examined.ensures.result_value in
    tree-refused c.args.table.now c.examine-examined.result examine-is _ c.in-Err.is
    c.args.vid c.args.from c.args.costs.now c.args.hops.now c.args.lasts.now _ c.from.ensures
