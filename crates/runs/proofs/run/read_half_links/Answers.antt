-- `runs::run::read_half_links` reads one half-link after the other. Assumes nothing.
use native.Mathlib.Omega.{arith}
use mathlib.Core.Path.{refl, sym, ◌∙◌}
use Rattle.rule.specs.Words.{words_of}
use Rattle.rule.specs.Records.{half_link_layout, half_link_of}
use Rattle.key_index.proofs.laws.IndexLaws.{no_keys_yet}
use Rattle.earlier.specs.HalfLinks.{port_key, number_key}
use Rattle.earlier.proofs.laws.KeyLaws.{keyed-none}
use Rattle.steps.proofs.laws.StepLaws.{refused_keeps}
use Rattle.runs.specs.Runs.{Numbers}
use Rattle.rule.proofs.laws.RefusalLaws.{passed_on}
use Rattle.runs.proofs.laws.KindLaws.{half_link-kind}
use Rattle.runs.proofs.laws.RunLaws.{running_starts, run_goes_on, run_ends, run_refuses, whole-at, fewer-words, numbers-at}
use Rattle.runs.proofs.run.read_half_links.Goals as goal

pub loop-port_index-init : goal.loop-port_index-init
loop-port_index-init c =
    let (_, reached, half-links-is, indexed) = c.requires in (
      running_starts reached,
      record {
        by_port = keyed-none half_link_of 3 port_key _ _ _ _ (rw half-links-is no_keys_yet) half-links-is;
        by_number = keyed-none half_link_of 3 number_key _ _ _ _ (rw half-links-is indexed) half-links-is;
      },
    )

pub is_next-requires : goal.is_next-requires
is_next-requires c =
    let (running, _) = c.loop-port_index.invariant in
    let (whole, _, _, _) = c.requires in
    whole-at running.reached whole.bounded

pub after_half_link-requires : goal.after_half_link-requires
after_half_link-requires c =
    let (running, half-link-indexes) = c.loop-port_index.invariant in
    let (whole, _, _, _) = c.requires in record {
      whole = whole-at running.reached whole.bounded;
      half_link_indexes = half-link-indexes;
    }

pub loop-port_index-smaller : goal.loop-port_index-smaller
loop-port_index-smaller c =
    let stepped = c.after_half_link.ensures.stepped in
    fewer-words stepped _ _ c.in_ok-t.was (omega arith)

pub loop-port_index-preserved : goal.loop-port_index-preserved
loop-port_index-preserved c =
    let (running, _) = c.loop-port_index.invariant in
    let stepped = c.after_half_link.ensures.stepped in
    let half-links-kept = c.after_half_link.ensures.half_links_kept in (
      run_goes_on running (sym c.is_next.ensures ∙ c.loop-port_index-test.true) half_link_layout half_link-kind stepped
          _ c.in_ok-t.was (omega arith)
          (record { bridges = λ d. refl; half_links = λ d. absurd (d refl); vids = λ d. refl; members = λ d. refl; traffic = λ d. refl })
          running.reached.few_vids,
      half-links-kept _ c.in_ok-t.was,
    )

pub returns-in_err-t : goal.returns-in_err-t
returns-in_err-t c =
    let (running, _) = c.loop-port_index.invariant in
    let stepped = c.after_half_link.ensures.stepped in
    rw (passed_on _ _ c.from_residual.ensures.1) record {
      run = run_refuses running (sym c.is_next.ensures ∙ c.loop-port_index-test.true) half_link_layout half_link-kind stepped _
          c.in_err-t.was;
      numbers_kept = refused_keeps (λ t. Numbers (words_of c.args.table.now) _ t);
    }

pub returns : goal.returns
returns c =
    let (running, half-link-indexes) = c.loop-port_index.invariant in record {
      run = run_ends running (sym c.is_next.ensures ∙ c.loop-port_index-test.false);
      numbers_kept = numbers-at half-link-indexes.by_number;
    }
