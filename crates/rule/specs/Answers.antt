-- What each case of an answer enum stands for on paper: its number and values (01, "Which form belongs where").
-- Assumes nothing.
use Rattle.std.specs.Prelude.{ℕ}
use Rattle.std.proofs.Math.Option.{Option, none, some}
use Rattle.rule.specs.Outcome.{Outcome, answered, refused}
use Rattle.rule.specs.declared.answer.RecordKind.{RecordKind}
use Rattle.rule.specs.declared.answer.RecordKind.TheVariants.{None as NoKind, Bridge, HalfLink, Vid, Member, Traffic, End}
use Rattle.rule.specs.declared.answer.Counts.{Counts}
use Rattle.rule.specs.declared.answer.CheckAnswer.{CheckAnswer}
use Rattle.rule.specs.declared.answer.PathAnswer.{PathAnswer}
use Rattle.rule.specs.declared.answer.TreeAnswer.{TreeAnswer}
use Rattle.rule.specs.declared.answer.EntriesAnswer.{EntriesAnswer}
use Rattle.rule.specs.declared.answer.LookupAnswer.{LookupAnswer}
use Rattle.rule.specs.declared.answer.ReadServicesAnswer.{ReadServicesAnswer}
use Rattle.rule.specs.declared.answer.WriteServicesAnswer.{WriteServicesAnswer}

-- The kinds by their numbers in the table.
abbrev pub kind_number : RecordKind → Option ℕ
kind_number NoKind = none
kind_number Bridge = some 1
kind_number HalfLink = some 2
kind_number Vid = some 3
kind_number Member = some 4
kind_number Traffic = some 5
kind_number End = some 15

-- "cost, hops".
pub record CostAndHops : Type 0 where
  pub cost : ℕ
  pub hops : ℕ

abbrev pub check_values : CheckAnswer → Outcome Counts
check_values (CheckAnswer.Accepted c) = answered c
check_values (CheckAnswer.Refused number kind at) = refused number (kind_number kind) at

abbrev pub path_values : PathAnswer → Outcome CostAndHops
path_values (PathAnswer.Given cost hops) = answered (record { cost = cost.0; hops = hops.0 })
path_values (PathAnswer.Refused number kind at) = refused number (kind_number kind) at

-- The number of bridges.
abbrev pub tree_values : TreeAnswer → Outcome ℕ
tree_values (TreeAnswer.Given bridges) = answered bridges
tree_values (TreeAnswer.Refused number kind at) = refused number (kind_number kind) at

-- "the words written".
abbrev pub entries_values : EntriesAnswer → Outcome ℕ
entries_values (EntriesAnswer.Written words) = answered words
entries_values (EntriesAnswer.Refused number kind at) = refused number (kind_number kind) at

-- "port of the matching entry n, counted from 0 in list order, or none".
abbrev pub lookup_values : LookupAnswer → Outcome (Option ℕ)
lookup_values (LookupAnswer.Port port) = answered (some port)
lookup_values LookupAnswer.None = answered none
lookup_values (LookupAnswer.Refused number kind at) = refused number (kind_number kind) at

-- The words of the member records (02, A2).
abbrev pub read_services_values : ReadServicesAnswer → Outcome ℕ
read_services_values (ReadServicesAnswer.Read words) = answered words
read_services_values (ReadServicesAnswer.Refused number kind at) = refused number (kind_number kind) at

-- The bytes of the sub-TLVs (02, A2).
abbrev pub write_services_values : WriteServicesAnswer → Outcome ℕ
write_services_values (WriteServicesAnswer.Written bytes) = answered bytes
write_services_values (WriteServicesAnswer.Refused number kind at) = refused number (kind_number kind) at
