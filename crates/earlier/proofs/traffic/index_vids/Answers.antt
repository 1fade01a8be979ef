-- `earlier::traffic::index_vids` enters one VID after the other. Assumes nothing.
use Prim.Native.Nat.{ℕ, ◌+◌, ◌*◌}
use native.Mathlib.Omega.{arith}
use mathlib.Core.Path.{◌≡◌, refl, sym, ap, subst, ◌∙◌}
use lib.ListN.{drop}
use Rattle.rule.specs.Words.{words_of}
use Rattle.rule.specs.Records.{vid_of}
use Rattle.earlier.specs.Keys.{vid_key, VidIndex}
use Rattle.earlier.proofs.laws.KeyLaws.{keyed-none, keyed-more}
use Rattle.earlier.proofs.traffic.index_vids.Goals as goal

pub loop-i-init : goal.loop-i-init
loop-i-init c =
    let (_, _, no_key) = c.requires in
    (keyed-none vid_of 1 vid_key _ _ _ 0 no_key refl, omega arith)

pub enter-requires : goal.enter-requires
enter-requires c =
    let (vid-index, _) = c.loop-i.invariant in
    let (_, vids-bound, _) = c.requires in
    (vid-index.indexed, omega (arith, c.loop-i-test.true, vids-bound))

pub loop-i-preserved : goal.loop-i-preserved
loop-i-preserved c =
    let (vid-index, _) = c.loop-i.invariant in
    let there : c.args.from + c.loop-i.i ≡ c.args.from + 1 * c.loop-i.i = omega arith in (
      keyed-more vid-index _ c.enter.ensures
          (ap vid_key (c.vid_at.ensures ∙ ap (λ (w : ℕ). vid_of (drop w (words_of c.args.table.now))) there)),
      omega (arith, c.loop-i-test.true),
    )

pub shape_of-vid_index : goal.shape_of-vid_index
shape_of-vid_index c =
    let (vid-index, _) = c.loop-i.invariant in
    let (_, _, no_key) = c.requires in
    vid-index.indexed.size ∙ sym no_key.size

pub returns : goal.returns
returns c =
    let (vid-index, i-bound) = c.loop-i.invariant in
    let all : c.loop-i.i ≡ c.args.vids = omega (arith, c.loop-i-test.false, i-bound) in
    subst (λ (n : ℕ). VidIndex c.loop-i.vid_index (words_of c.args.table.now) c.args.from n) all vid-index
