-- `runs::run::read_vids` reads one VID after the other. Assumes nothing.
use native.Mathlib.Omega.{arith}
use mathlib.Core.Path.{refl, sym, ◌∙◌}
use Rattle.rule.specs.Words.{words_of}
use Rattle.rule.specs.Records.{vid_layout}
use Rattle.steps.proofs.laws.StepLaws.{taken_sound, vid-room}
use Rattle.rule.proofs.laws.RefusalLaws.{passed_on}
use Rattle.runs.proofs.laws.KindLaws.{vid-kind}
use Rattle.runs.proofs.laws.RunLaws.{running_starts, run_goes_on, run_ends, run_refuses, whole-at, fewer-words}
use Rattle.runs.proofs.run.read_vids.Goals as goal

pub loop-t-init : goal.loop-t-init
loop-t-init c =
    let (_, reached) = c.requires in
    running_starts reached

pub is_next-requires : goal.is_next-requires
is_next-requires c =
    let (whole, _) = c.requires in
    whole-at c.loop-t.invariant.reached whole.bounded

pub after_vid-requires : goal.after_vid-requires
after_vid-requires c =
    let (whole, _) = c.requires in
    whole-at c.loop-t.invariant.reached whole.bounded

pub loop-t-smaller : goal.loop-t-smaller
loop-t-smaller c = fewer-words c.after_vid.ensures _ _ c.in_ok-t.was (omega arith)

pub loop-t-preserved : goal.loop-t-preserved
loop-t-preserved c =
    run_goes_on c.loop-t.invariant (sym c.is_next.ensures ∙ c.loop-t-test.true) vid_layout vid-kind
    c.after_vid.ensures _ c.in_ok-t.was (omega arith)
    (record { bridges = λ d. refl; half_links = λ d. refl; vids = λ d. absurd (d refl); members = λ d. refl; traffic = λ d. refl })
    (vid-room (words_of c.args.table.now) c.loop-t.t
    (taken_sound (words_of c.args.table.now) c.loop-t.t vid_layout c.after_vid.ensures
    _ c.in_ok-t.was))

pub returns-in_err-t : goal.returns-in_err-t
returns-in_err-t c =
    rw (passed_on _ _ c.from_residual.ensures.1) (
    run_refuses c.loop-t.invariant (sym c.is_next.ensures ∙ c.loop-t-test.true) vid_layout vid-kind
    c.after_vid.ensures _ c.in_err-t.was)

pub returns : goal.returns
returns c = run_ends c.loop-t.invariant (sym c.is_next.ensures ∙ c.loop-t-test.false)
