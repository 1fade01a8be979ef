-- `runs::run::read_indexed_traffic` enters the VIDs into their index and reads one traffic record after the other. Assumes nothing.
use native.Mathlib.Omega.{arith}
use mathlib.Core.Path.{refl, sym, ◌∙◌}
use Rattle.rule.specs.Records.{traffic_layout, traffic_of}
use Rattle.key_index.proofs.laws.IndexLaws.{no_keys_yet}
use Rattle.earlier.specs.Keys.{traffic_key}
use Rattle.earlier.proofs.laws.KeyLaws.{keyed-none}
use Rattle.rule.proofs.laws.RefusalLaws.{passed_on}
use Rattle.runs.proofs.laws.KindLaws.{traffic-kind}
use Rattle.runs.proofs.laws.RunLaws.{running_starts, run_goes_on, run_ends, run_refuses, whole-at, fewer-words, vids-still}
use Rattle.runs.proofs.run.read_indexed_traffic.Goals as goal

pub vids_from-requires : goal.vids_from-requires
vids_from-requires c =
    let (whole, _, _) = c.requires in
    omega (arith, whole)

pub index_vids-requires : goal.index_vids-requires
index_vids-requires c =
    let (whole, reached, _) = c.requires in
    (omega (arith, whole, c.vids_from.ensures), omega (arith, reached.few_vids), no_keys_yet)

pub loop-vid_index-init : goal.loop-vid_index-init
loop-vid_index-init c =
    let (_, reached, traffic-is) = c.requires in (
      running_starts reached,
      rw c.vids_from.ensures at c.index_vids.ensures,
      keyed-none traffic_of 2 traffic_key _ _ _ _ (rw traffic-is no_keys_yet) traffic-is,
    )

pub is_next-requires : goal.is_next-requires
is_next-requires c =
    let (running, _, _) = c.loop-vid_index.invariant in
    let (whole, _, _) = c.requires in
    whole-at running.reached whole.bounded

pub after_traffic-requires : goal.after_traffic-requires
after_traffic-requires c =
    let (running, vid-index, traffic-index) = c.loop-vid_index.invariant in
    let (whole, _, _) = c.requires in record {
      whole = whole-at running.reached whole.bounded;
      vid_index = vid-index;
      traffic_index = traffic-index;
    }

pub loop-vid_index-smaller : goal.loop-vid_index-smaller
loop-vid_index-smaller c =
    let stepped = c.after_traffic.ensures.stepped in
    fewer-words stepped _ _ c.in_ok-t.was (omega arith)

pub loop-vid_index-preserved : goal.loop-vid_index-preserved
loop-vid_index-preserved c =
    let (running, vid-index, _) = c.loop-vid_index.invariant in
    let stepped = c.after_traffic.ensures.stepped in
    let traffic-kept = c.after_traffic.ensures.traffic_kept in
    let next = c.in_ok-t.t in
    let next-is = c.in_ok-t.was in (
      run_goes_on running (sym c.is_next.ensures ∙ c.loop-vid_index-test.true) traffic_layout traffic-kind stepped next next-is
          (omega arith)
          (record { bridges = λ d. refl; half_links = λ d. refl; vids = λ d. refl; members = λ d. refl; traffic = λ d. absurd (d refl) })
          running.reached.few_vids,
      vids-still c.loop-vid_index.t stepped vid-index next next-is,
      traffic-kept next next-is,
    )

pub returns-in_err-t : goal.returns-in_err-t
returns-in_err-t c =
    let (running, _, _) = c.loop-vid_index.invariant in
    let stepped = c.after_traffic.ensures.stepped in
    rw (passed_on _ _ c.from_residual.ensures.1) (
    run_refuses running (sym c.is_next.ensures ∙ c.loop-vid_index-test.true) traffic_layout traffic-kind stepped _
    c.in_err-t.was)

pub returns : goal.returns
returns c =
    let (running, _, _) = c.loop-vid_index.invariant in
    run_ends running (sym c.is_next.ensures ∙ c.loop-vid_index-test.false)
