-- `bench_calls::calls::bench_path` gives the cost that the path call answers, or its refusal number. Assumes nothing.
use mathlib.Core.Path.{sym, ap}
use Rattle.rule.specs.declared.answer.PathAnswer.{PathAnswer}
use Rattle.rule.specs.Answers.{path_values}
use Rattle.bench_calls.specs.BenchCalls.{cost_or_refusal}
use Rattle.bench_calls.proofs.laws.BenchCallLaws.{path-number}
use Rattle.bench_calls.proofs.calls.bench_path.Goals as goal

pub returns-in-Given : goal.returns-in-Given
returns-in-Given c =
    path-number c.args.table.now c.args.vid c.args.from c.args.to c.path-answer.result _
    c.path-answer.ensures (sym (ap (λ (x : PathAnswer). cost_or_refusal (path_values x)) c.in-Given.is))

pub returns-in-Refused : goal.returns-in-Refused
returns-in-Refused c =
    path-number c.args.table.now c.args.vid c.args.from c.args.to c.path-answer.result _
    c.path-answer.ensures (sym (ap (λ (x : PathAnswer). cost_or_refusal (path_values x)) c.in-Refused.is))
