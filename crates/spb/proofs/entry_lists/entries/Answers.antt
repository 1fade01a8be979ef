-- `spb::entry_lists::entries` asks the entries of an accepted table, or passes the refusal of the verdict on. Assumes nothing.
use Rattle.key_index.proofs.laws.IndexLaws.{no_keys_yet}
use Rattle.spb.proofs.laws.CallLaws.{entries_accepted, entries_refused}
use Rattle.spb.proofs.entry_lists.entries.Goals as goal

pub examine-examined-requires : goal.examine-examined-requires
examine-examined-requires c = no_keys_yet

pub entries_in_table-requires : goal.entries_in_table-requires
entries_in_table-requires c =
    let passed = c.examine-examined.ensures.passed in
    passed _ c.in-Ok.is

pub returns-in-Ok : goal.returns-in-Ok
returns-in-Ok c =
    let examine-is = c.examine-examined.ensures.result_value in
    entries_accepted c.args.table.now c.examine-examined.result examine-is _ c.in-Ok.is
    c.args.bridge c.args.list.now _ c.entries_in_table.ensures

pub returns-in-Err : goal.returns-in-Err
returns-in-Err c =
    let examine-is = c.examine-examined.ensures.result_value in
    entries_refused c.args.table.now c.examine-examined.result examine-is _ c.in-Err.is
    c.args.bridge c.args.list.now _ c.from.ensures
