-- `editing::replace::write_metric` writes the bytes of the word with its new metric. Assumes nothing.
use native.Mathlib.Omega.{arith}
use Rattle.editing.proofs.laws.EditedBytes.{metric-written}
use Rattle.editing.proofs.replace.write_metric.Goals as goal

pub returns : goal.returns
returns c =
    let (word-at-is, _) = c.word_at-first.ensures in
    let (room, whole, small) = c.requires in
    metric-written _ (λ i. omega (arith, c.slice_known-1.given i)) whole _ _ _ _ _ room word-at-is
    c.write_word.ensures
