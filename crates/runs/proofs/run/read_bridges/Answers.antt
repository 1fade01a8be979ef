-- `runs::run::read_bridges` reads one bridge after the other. Assumes nothing.
use native.Mathlib.Omega.{arith}
use mathlib.Core.Path.{refl, sym, ◌∙◌}
use Rattle.rule.specs.Records.{bridge_layout, bridge_of}
use Rattle.key_index.proofs.laws.IndexLaws.{no_keys_yet}
use Rattle.earlier.specs.Keys.{source_key, address_key}
use Rattle.earlier.proofs.laws.KeyLaws.{keyed-none}
use Rattle.rule.proofs.laws.RefusalLaws.{passed_on}
use Rattle.runs.proofs.laws.KindLaws.{bridge-kind}
use Rattle.runs.proofs.laws.RunLaws.{running_starts, run_goes_on, run_ends, run_refuses, whole-at, fewer-words}
use Rattle.runs.proofs.run.read_bridges.Goals as goal

pub loop-source_index-init : goal.loop-source_index-init
loop-source_index-init c =
    let (_, reached, bridges-is) = c.requires in (
      running_starts reached,
      record {
        by_source = keyed-none bridge_of 3 source_key _ _ 0 _ (rw bridges-is no_keys_yet) bridges-is;
        by_address = keyed-none bridge_of 3 address_key _ _ 0 _ (rw bridges-is no_keys_yet) bridges-is;
      },
    )

pub is_next-requires : goal.is_next-requires
is_next-requires c =
    let (running, _) = c.loop-source_index.invariant in
    let (whole, _, _) = c.requires in
    whole-at running.reached whole.bounded

pub after_bridge-requires : goal.after_bridge-requires
after_bridge-requires c =
    let (running, bridge-indexes) = c.loop-source_index.invariant in
    let (whole, _, _) = c.requires in record {
      whole = whole-at running.reached whole.bounded;
      bridge_indexes = bridge-indexes;
    }

pub loop-source_index-smaller : goal.loop-source_index-smaller
loop-source_index-smaller c =
    let stepped = c.after_bridge.ensures.stepped in
    fewer-words stepped _ _ c.in_ok-t.was (omega arith)

pub loop-source_index-preserved : goal.loop-source_index-preserved
loop-source_index-preserved c =
    let (running, _) = c.loop-source_index.invariant in
    let stepped = c.after_bridge.ensures.stepped in
    let bridges-kept = c.after_bridge.ensures.bridges_kept in (
      run_goes_on running (sym c.is_next.ensures ∙ c.loop-source_index-test.true) bridge_layout bridge-kind stepped
          _ c.in_ok-t.was (omega arith)
          (record { bridges = λ d. absurd (d refl); half_links = λ d. refl; vids = λ d. refl; members = λ d. refl; traffic = λ d. refl })
          running.reached.few_vids,
      bridges-kept _ c.in_ok-t.was,
    )

pub returns-in_err-t : goal.returns-in_err-t
returns-in_err-t c =
    let (running, _) = c.loop-source_index.invariant in
    let stepped = c.after_bridge.ensures.stepped in
    rw (passed_on _ _ c.from_residual.ensures.1) (
    run_refuses running (sym c.is_next.ensures ∙ c.loop-source_index-test.true) bridge_layout bridge-kind stepped _
    c.in_err-t.was)

pub returns : goal.returns
returns c =
    let (running, _) = c.loop-source_index.invariant in
    run_ends running (sym c.is_next.ensures ∙ c.loop-source_index-test.false)
