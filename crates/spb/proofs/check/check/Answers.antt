-- `spb::check::check` gives the counts of an accepted table, or the refusal of the verdict. Assumes nothing.
use mathlib.Core.Path.{◌∙◌}
use Rattle.key_index.proofs.laws.IndexLaws.{no_keys_yet}
use Rattle.spb.proofs.laws.CallLaws.{check-accepted, check-refused}
use Rattle.spb.proofs.check.check.Goals as goal

pub examine-examined-requires : goal.examine-examined-requires
examine-examined-requires c = no_keys_yet

pub counts-requires : goal.counts-requires
counts-requires c =
    let passed = c.examine-examined.ensures.passed in
    passed _ c.in-Ok.is

pub returns-in-Ok : goal.returns-in-Ok
returns-in-Ok c =
    let examine-is = c.examine-examined.ensures.result_value in
    check-accepted c.args.table.now c.examine-examined.result examine-is _ c.in-Ok.is
    c.counts.result c.counts.ensures

pub returns-in-Err : goal.returns-in-Err
returns-in-Err c =
    let examine-is = c.examine-examined.ensures.result_value in
    c.from.ensures ∙ check-refused c.args.table.now c.examine-examined.result examine-is _ c.in-Err.is
