-- `services::advertisements::read_services` reads the services of an accepted table, or passes the refusal of the verdict on. Assumes nothing.
use Rattle.key_index.proofs.laws.IndexLaws.{no_keys_yet}
use Rattle.services.proofs.laws.CallLaws.{read-accepted, read-refused}
use Rattle.services.proofs.advertisements.read_services.Goals as goal

pub examine-examined-requires : goal.examine-examined-requires
examine-examined-requires c = no_keys_yet

pub read_in_table-requires : goal.read_in_table-requires
read_in_table-requires c =
    let passed = c.examine-examined.ensures.passed in
    (passed _ c.in-Ok.is).0

pub returns-in-Ok : goal.returns-in-Ok
returns-in-Ok c =
    let examine-is = c.examine-examined.ensures.result_value in
    read-accepted c.args.table.now c.examine-examined.result examine-is _ c.in-Ok.is
    c.args.bytes.now c.args.words.now _ c.read_in_table.ensures

pub returns-in-Err : goal.returns-in-Err
returns-in-Err c =
    let examine-is = c.examine-examined.ensures.result_value in
    read-refused c.args.table.now c.examine-examined.result examine-is _ c.in-Err.is
    c.args.bytes.now c.args.words.now _ c.from.ensures
