-- `spb::exported::spb_check` gives the number of the verdict. Assumes nothing.
use Rattle.key_index.proofs.laws.IndexLaws.{no_keys_yet}
use Rattle.spb.proofs.laws.CallLaws.{accepted-number, refused-number}
use Rattle.spb.proofs.exported.spb_check.Goals as goal

pub examine-examined-requires : goal.examine-examined-requires
examine-examined-requires c = no_keys_yet

pub returns-in-Ok : goal.returns-in-Ok
returns-in-Ok c =
    let examine-is = c.examine-examined.ensures.result_value in
    accepted-number c.args.table.now c.examine-examined.result examine-is _ c.in-Ok.is

pub returns-in-Err : goal.returns-in-Err
returns-in-Err c =
    let examine-is = c.examine-examined.ensures.result_value in
    refused-number c.args.table.now c.examine-examined.result examine-is _ c.in-Err.is
