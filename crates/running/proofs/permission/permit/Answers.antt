-- `running::permission::permit` tests a change of an accepted table, or passes the refusal of the verdict on. Assumes nothing.
use mathlib.Core.Path.{◌∙◌}
use Rattle.key_index.proofs.laws.IndexLaws.{no_keys_yet}
use Rattle.rule.proofs.laws.RefusalLaws.{passed_on}
use Rattle.running.proofs.laws.PermissionLaws.{asked-permission, not-asked-permission}
use Rattle.running.proofs.permission.permit.Goals as goal

pub examine-requires : goal.examine-requires
examine-requires c = no_keys_yet

pub permit_in_table-requires : goal.permit_in_table-requires
permit_in_table-requires c = (c.examine.ensures.passed _ c.in_ok-s.was).0

pub returns-in_err-s : goal.returns-in_err-s
returns-in_err-s c =
    rw (passed_on _ _ c.from_residual.ensures.1) (
    not-asked-permission c.args.table.now c.examine.result c.examine.ensures.result_value _ _ _ _ _ c.in_err-s.was)

pub returns : goal.returns
returns c =
    c.permit_in_table.ensures
    ∙ asked-permission c.args.table.now c.examine.result c.examine.ensures.result_value _ _ _ _ _ c.in_ok-s.was
