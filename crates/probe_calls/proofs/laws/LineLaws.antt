-- A line with three lists: an answer, their later contents, and the newline. Assumes nothing.
use Rattle.std.specs.Prelude.{ℕ, ◌+◌, ◌≤◌, List, [], ◌∷◌, ◌++◌, length}
use Rattle.std.proofs.Common.{arith}
use Rattle.text.specs.Text.{newline, WrittenAt}
use Rattle.text.proofs.laws.TextLaws.{written-length, written_on}

-- An answer of at most 40 bytes was written to the front.
module _ {out out₁ answer : List ℕ} {a : ℕ} (A : WrittenAt 0 out out₁ answer a × (a ≤ 40)) where
  -- After it three lists, of at most `l`, `m` and `n` bytes.
  pub three-lists-line : (l m n : ℕ) {out₂ out₃ out₄ out₅ costs hops lasts : List ℕ} {b d e end : ℕ}
      → WrittenAt a out₁ out₂ costs b × (b ≤ a + l) → WrittenAt b out₂ out₃ hops d × (d ≤ b + m)
      → WrittenAt d out₃ out₄ lasts e × (e ≤ d + n) → WrittenAt e out₄ out₅ (newline ∷ []) end → 41 + (l + m + n) ≤ length out
      → WrittenAt 0 out out₅ (answer ++ (costs ++ (hops ++ (lasts ++ (newline ∷ []))))) end × (end ≤ length out)
  three-lists-line l m n C H L N room =
      let (answer-written, answer_bound) = A
      in let (costs-written, costs_bound) = C
      in let (hops-written, hops_bound) = H
      in let (lasts_written, lasts_bound) = L
      in let out₁_length = written-length answer-written (omega arith)
      in let out₂_length = written-length costs-written (omega arith)
      in let out₃_length = written-length hops-written (omega arith)
      in (
        written_on answer-written
            (written_on costs-written (written_on hops-written (written_on lasts_written N (omega arith)) (omega arith)) (omega arith))
            (omega arith),
        omega (arith, N.end_is),
      )
