-- `readers::half_link::half_link_of` gives the record of kind 2: field by field. Assumes nothing.
use Prim.Native.Nat.{ℕ, ◌/◌, ◌%◌}
use native.Mathlib.Omega.{arith}
use mathlib.Core.Path.{◌≡◌, ap}
use lib.Dec.{eqb}
use Rattle.rule.specs.Words.{words_of}
use Rattle.rule.specs.Records.{field_at}
use Rattle.readers.proofs.laws.ReaderLaws.{same_half_link}
use Rattle.readers.proofs.half_link.half_link_of.Goals as goal

pub returns : goal.returns
returns c =
    let bit-27 : c.word_at-first.result / 134217728 % 2 ≡ field_at 0 27 27 (words_of c.args.part.now) = omega arith in
    same_half_link (ap (λ (bit : ℕ). eqb bit 1) bit-27) (omega arith) (omega arith) (omega arith) (omega arith) (omega arith)
