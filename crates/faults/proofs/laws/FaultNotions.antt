-- The faults of one record as its reader finds them, and those that are left: what the laws of faults speak of. Assumes nothing.
use Rattle.std.specs.Prelude.{ℕ, List, [], ◌∷◌, Bool, cond, Result, Ok, Err, length, drop}
use Rattle.std.proofs.Math.Option.{Option, some}
use Rattle.rule.specs.Records.{Record, end_count, Layout}
use Rattle.rule.specs.Check.{Reading, Fault as Check·Fault, fault, lowest_fault, wrong_end_count, unknown_name, repeated, wrong_link, words_follow}
use Rattle.rule.specs.Refusals.{fault_number}
use Rattle.rule.specs.declared.refusal.Fault.{Fault}
use Rattle.table.specs.declared.shape.Shape.{Shape}
use Rattle.table.specs.Positions.{words_read, reading_at}
use Rattle.readers.specs.Readers.{Read, cut, zero_bit, out_of_range, whole}

-- What a record of no lower kind comes to, by the test of its number and by what its reader finds, where `left` is the lowest of its other
-- faults.
abbrev pub lowest_of_read : Bool → Read → Option ℕ → Option ℕ
lowest_of_read full cut left = some 3
lowest_of_read full zero_bit left = some 4
lowest_of_read full out_of_range left = cond full (some 5) (some 6)
lowest_of_read full (whole e) left = cond full (some 5) left

-- The fault that a record shows by itself, or the lowest of those left.
abbrev pub or_left : {A : Type 0} → Result A Fault → Option ℕ → Option ℕ
or_left (Ok _) left = left
or_left (Err fault) left = some (fault_number fault)

-- The lowest of the faults left, by the tests of 6 to 10.
abbrev pub left_by_tests : Bool → Bool → Bool → Bool → Bool → Result Unit Fault
left_by_tests b6 b7 b8 b9 b10 =
    cond b6 (Err Fault.OutOfRange)
    (cond b7 (Err Fault.UnknownName)
    (cond b8 (Err Fault.Repeated)
    (cond b9 (Err Fault.NoMirror)
    (cond b10 (Err Fault.WordsFollow) (Ok tt)))))

-- The faults that are left of a record that shows none by itself: `n` words from its first to the end of the table.
abbrev pub faults_left : Reading → Record → ℕ → List Check·Fault
faults_left s e n =
    fault 6 (wrong_end_count s.at (end_count e))
    ∷ fault 7 (unknown_name s.plan e)
    ∷ fault 8 (repeated s.plan e)
    ∷ fault 9 (wrong_link s.plan e)
    ∷ fault 10 (words_follow n (end_count e))
    ∷ []

-- The lowest fault that is left of the record after those of a shape, if it is of the kind of the row `l`.
abbrev pub lowest_left : List ℕ → Shape → Layout → Option ℕ
lowest_left ws s l =
    lowest_fault (faults_left (reading_at ws s) (l.decoded (drop (words_read s) ws)) (length (drop (words_read s) ws)))
