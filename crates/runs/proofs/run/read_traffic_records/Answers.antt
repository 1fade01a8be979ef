-- `runs::run::read_traffic_records` reads the traffic where a record of it stands next. Assumes nothing.
use mathlib.Core.Path.{sym, ◌∙◌}
use Rattle.runs.proofs.laws.RunLaws.{running_starts, run_ends}
use Rattle.runs.proofs.run.read_traffic_records.Goals as goal

pub returns-then-not-is_next : goal.returns-then-not-is_next
returns-then-not-is_next c =
    let (_, reached, _) = c.requires in
    run_ends (running_starts reached) (sym c.is_next.ensures ∙ c.if-not-is_next.true)
