-- The numbers of the faults, and what a refusal stands for on paper (01, "Refusals in checking order"; 02, A2 and A7). Assumes nothing.
use Rattle.std.specs.Prelude.{ℕ}
use Rattle.rule.specs.Outcome.{Outcome, refused}
use Rattle.rule.specs.Answers.{kind_number}
use Rattle.rule.specs.declared.answer.RecordKind.{RecordKind}
use Rattle.rule.specs.declared.refusal.Fault.{Fault}
use Rattle.rule.specs.declared.refusal.Refusal.{Refusal}

abbrev pub fault_number : Fault → ℕ
fault_number Fault.Length = 1
fault_number Fault.Kind = 2
fault_number Fault.Cut = 3
fault_number Fault.ZeroBit = 4
fault_number Fault.OneMore = 5
fault_number Fault.OutOfRange = 6
fault_number Fault.UnknownName = 7
fault_number Fault.Repeated = 8
fault_number Fault.NoMirror = 9
fault_number Fault.WordsFollow = 10
fault_number Fault.NotInTable = 11
fault_number Fault.NoPath = 12
fault_number Fault.ShortList = 13
fault_number Fault.EntryList = 14
fault_number Fault.NoSubTlv = 15
fault_number Fault.UnknownAdvertiser = 16
fault_number Fault.NoHalfLink = 17
fault_number Fault.MetricOutOfRange = 18
fault_number Fault.TooManyChanges = 19

-- A refusal that concerns no record.
abbrev pub call_refusal : Fault → Refusal
call_refusal fault = record { number = fault_number fault; kind = RecordKind.None; word = 0 }

module _ {A : Type 0} where
  abbrev pub refused_by : Refusal → Outcome A
  refused_by r = refused r.number (kind_number r.kind) r.word
