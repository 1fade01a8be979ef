-- The faults of one record: the record that its reader found unless it shows a fault by itself, and those that are left. Assumes nothing.
use Rattle.std.specs.Prelude.{ℕ, List, Bool, Result, Ok, Err, cond, leb, ltb, drop}
use Rattle.std.proofs.Math.Option.{Option, none, some}
use Rattle.rule.specs.Records.{Layout}
use Rattle.rule.specs.Check.{faults, lowest_fault}
use Rattle.rule.specs.Refusals.{fault_number}
use Rattle.rule.specs.declared.refusal.Fault.{Fault}
use Rattle.readers.specs.declared.fault.RecordFault.{RecordFault}
use Rattle.table.specs.declared.shape.Shape.{Shape}
use Rattle.table.specs.Positions.{words_read, reading_at}

-- A fault's number, or none.
abbrev pub numbered : Result Unit Fault → Option ℕ
numbered (Ok _) = none
numbered (Err fault) = some (fault_number fault)

-- The lowest fault of the record after those of a shape, if it is of the kind of the row `l`.
abbrev pub fault_at : List ℕ → Shape → Layout → Option ℕ
fault_at ws s l = lowest_fault (faults (reading_at ws s) l (drop (words_read s) ws))

-- What a record shows of which its reader found a fault, where its kind has reached its limit or not: 5 comes before 6 and after 3 and 4.
abbrev pub fault_shown : Bool → RecordFault → Fault
fault_shown full RecordFault.Cut = Fault.Cut
fault_shown full RecordFault.ZeroBit = Fault.ZeroBit
fault_shown full RecordFault.OutOfRange = cond full Fault.OneMore Fault.OutOfRange

-- The record that a reader found, where its kind has reached its limit or not.
abbrev pub within_limit : {A : Type 0} → Bool → Result A RecordFault → Result A Fault
within_limit full (Ok a) = cond full (Err Fault.OneMore) (Ok a)
within_limit full (Err found) = Err (fault_shown full found)

-- The record that a reader found, or the lowest of the faults 2 to 6 that it shows by itself.
unfoldable pub without_own_fault : {A : Type 0} → ℕ → ℕ → Result A RecordFault → ℕ → ℕ → Result A Fault
without_own_fault last kind read count limit = cond (ltb kind last) (Err Fault.Kind) (within_limit (leb limit count) read)
