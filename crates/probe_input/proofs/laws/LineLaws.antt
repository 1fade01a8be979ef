-- A line: an answer, the later contents of a lent list, and the newline. Assumes nothing.
use Rattle.std.specs.Prelude.{ℕ, ◌+◌, ◌≤◌, List, [], ◌∷◌, ◌++◌, length}
use Rattle.std.proofs.Common.{arith}
use Rattle.text.specs.Text.{newline, WrittenAt}
use Rattle.text.proofs.laws.TextLaws.{written-length, written_on}

-- An answer of at most 40 bytes was written to the front.
module _ {out out₁ answer : List ℕ} {a : ℕ} (A : WrittenAt 0 out out₁ answer a × (a ≤ 40)) where
  -- After it one list of at most `n` bytes.
  pub list_line : (n : ℕ) {out₂ out₃ list : List ℕ} {b end : ℕ} → WrittenAt a out₁ out₂ list b × (b ≤ a + n)
      → WrittenAt b out₂ out₃ (newline ∷ []) end → 41 + n ≤ length out
      → WrittenAt 0 out out₃ (answer ++ (list ++ (newline ∷ []))) end × (end ≤ length out)
  list_line n L N room =
      let (answer-written, answer_bound) = A
      in let (list_written, list_bound) = L
      in let length-kept = written-length answer-written (omega arith)
      in (
        written_on answer-written (written_on list_written N (omega arith)) (omega arith),
        omega (arith, N.end_is),
      )
