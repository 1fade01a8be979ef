-- `loads::traffic::write_indexes` writes index after index. Assumes nothing.
use native.Mathlib.Omega.{arith}
use mathlib.Core.Path.{refl, ap, ◌∙◌}
use Prim.Native.Nat.{ℕ}
use lib.ListN.{length-set}
use Rattle.rule.specs.Words.{words_of}
use Rattle.rule.specs.Records.{Vid}
use Rattle.loads.proofs.laws.TrafficLaws.{no_indexes, index-more, all_indexes}
use Rattle.loads.proofs.traffic.write_indexes.Goals as goal

pub loop-k-init : goal.loop-k-init
loop-k-init c = (no_indexes _ _ _, refl)

pub bounds-indexes-k : goal.bounds-indexes-k
bounds-indexes-k c =
    let (_, room) = c.requires in
    let (_, same_length) = c.loop-k.invariant in
    omega (arith, room, same_length, c.loop-k-test.true)

pub loop-k-preserved : goal.loop-k-preserved
loop-k-preserved c =
    let (_, room) = c.requires in
    let (so_far, same_length) = c.loop-k.invariant in (
      index-more so_far (omega (arith, room, same_length, c.loop-k-test.true)) _ (ap (λ (v : Vid). v.index) c.vid.ensures),
      length-set {A = ℕ} c.loop-k.indexes _ _ ∙ same_length,
    )

pub returns : goal.returns
returns c =
    let (_, room) = c.requires in
    let (so_far, same_length) = c.loop-k.invariant in
    all_indexes (words_of c.args.table.now) c.args.s so_far c.loop-k-test.false (omega (arith, room, same_length))
