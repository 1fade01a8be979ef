-- `bench_calls::calls::bench_entries` gives how many words the entries call writes, or its refusal number. Assumes nothing.
use mathlib.Core.Path.{sym, ap}
use Rattle.rule.specs.declared.answer.EntriesAnswer.{EntriesAnswer}
use Rattle.rule.specs.Answers.{entries_values}
use Rattle.bench_calls.specs.BenchCalls.{number_or_refusal}
use Rattle.bench_calls.proofs.laws.BenchCallLaws.{entries_number}
use Rattle.bench_calls.proofs.calls.bench_entries.Goals as goal

pub returns-in-Written : goal.returns-in-Written
returns-in-Written c =
    entries_number c.args.table.now c.args.bridge c.entries-answer.result _ c.entries-answer.ensures
    (sym (ap (λ (x : EntriesAnswer). number_or_refusal (entries_values x)) c.in-Written.is))

pub returns-in-Refused : goal.returns-in-Refused
returns-in-Refused c =
    entries_number c.args.table.now c.args.bridge c.entries-answer.result _ c.entries-answer.ensures
    (sym (ap (λ (x : EntriesAnswer). number_or_refusal (entries_values x)) c.in-Refused.is))
