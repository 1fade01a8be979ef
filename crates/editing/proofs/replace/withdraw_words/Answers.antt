-- `editing::replace::withdraw_words` takes three words out and lowers the last one. Assumes nothing.
use native.Mathlib.Omega.{arith}
use Rattle.editing.proofs.laws.EditedBytes.{last-place, end-there, words_withdrawn}
use Rattle.editing.proofs.replace.withdraw_words.Goals as goal

pub overflow_sub-end : goal.overflow_sub-end
overflow_sub-end c =
    let (word-at-is, _) = c.word_at-end.ensures in
    let (room, whole, high) = c.requires in
    omega (
      arith,
      high,
      word-at-is,
      end-there _ (λ i. omega (arith, c.slice_known-1.given i)) whole _ room _ c.close_gap.ensures _
          (last-place _ (λ i. omega (arith, c.slice_known-1.given i)) whole _ room _ c.close_gap.ensures),
    )

pub returns : goal.returns
returns c =
    let (word-at-is, _) = c.word_at-end.ensures in
    let (room, whole, high) = c.requires in
    words_withdrawn _ (λ i. omega (arith, c.slice_known-1.given i)) whole _ room _ c.close_gap.ensures _ _ _ _
    (last-place _ (λ i. omega (arith, c.slice_known-1.given i)) whole _ room _ c.close_gap.ensures) word-at-is
    c.write_word.ensures
