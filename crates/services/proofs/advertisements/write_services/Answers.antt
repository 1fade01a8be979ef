-- `services::advertisements::write_services` writes the services of an accepted table, or passes the refusal of the verdict on. Assumes nothing.
use Rattle.key_index.proofs.laws.IndexLaws.{no_keys_yet}
use Rattle.services.proofs.laws.CallLaws.{write_accepted, write_refused}
use Rattle.services.proofs.advertisements.write_services.Goals as goal

pub examine-examined-requires : goal.examine-examined-requires
examine-examined-requires c = no_keys_yet

pub write_in_table-requires : goal.write_in_table-requires
write_in_table-requires c =
    let passed = c.examine-examined.ensures.passed in
    (passed _ c.in-Ok.is).0

pub returns-in-Ok : goal.returns-in-Ok
returns-in-Ok c =
    let examine-is = c.examine-examined.ensures.result_value in
    write_accepted c.args.table.now c.examine-examined.result examine-is _ c.in-Ok.is
    c.args.bridge c.args.vid c.args.bytes.now _ c.write_in_table.ensures

pub returns-in-Err : goal.returns-in-Err
returns-in-Err c =
    let examine-is = c.examine-examined.ensures.result_value in
    write_refused c.args.table.now c.examine-examined.result examine-is _ c.in-Err.is
    c.args.bridge c.args.vid c.args.bytes.now _ c.from.ensures
