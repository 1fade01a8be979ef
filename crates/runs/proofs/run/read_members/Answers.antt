-- `runs::run::read_members` reads one member after the other. Assumes nothing.
use native.Mathlib.Omega.{arith}
use mathlib.Core.Path.{refl, sym, ◌∙◌}
use Rattle.rule.specs.Records.{member_layout, member_of}
use Rattle.key_index.proofs.laws.IndexLaws.{no_keys_yet}
use Rattle.earlier.specs.Keys.{member_key}
use Rattle.earlier.proofs.laws.KeyLaws.{keyed-none}
use Rattle.rule.proofs.laws.RefusalLaws.{passed_on}
use Rattle.runs.proofs.laws.KindLaws.{member-kind}
use Rattle.runs.proofs.laws.RunLaws.{running_starts, run_goes_on, run_ends, run_refuses, whole-at, fewer-words}
use Rattle.runs.proofs.run.read_members.Goals as goal

pub loop-member_index-init : goal.loop-member_index-init
loop-member_index-init c =
    let (_, reached, members-is) = c.requires in
    (running_starts reached, keyed-none member_of 2 member_key _ _ _ _ (rw members-is no_keys_yet) members-is)

pub is_next-requires : goal.is_next-requires
is_next-requires c =
    let (running, _) = c.loop-member_index.invariant in
    let (whole, _, _) = c.requires in
    whole-at running.reached whole.bounded

pub after_member-requires : goal.after_member-requires
after_member-requires c =
    let (running, member-index) = c.loop-member_index.invariant in
    let (whole, _, _) = c.requires in record {
      whole = whole-at running.reached whole.bounded;
      member_index = member-index;
    }

pub loop-member_index-smaller : goal.loop-member_index-smaller
loop-member_index-smaller c =
    let stepped = c.after_member.ensures.stepped in
    fewer-words stepped _ _ c.in_ok-t.was (omega arith)

pub loop-member_index-preserved : goal.loop-member_index-preserved
loop-member_index-preserved c =
    let (running, _) = c.loop-member_index.invariant in
    let stepped = c.after_member.ensures.stepped in
    let members_kept = c.after_member.ensures.members_kept in (
      run_goes_on running (sym c.is_next.ensures ∙ c.loop-member_index-test.true) member_layout member-kind stepped
          _ c.in_ok-t.was (omega arith)
          (record { bridges = λ d. refl; half_links = λ d. refl; vids = λ d. refl; members = λ d. absurd (d refl); traffic = λ d. refl })
          running.reached.few_vids,
      members_kept _ c.in_ok-t.was,
    )

pub returns-in_err-t : goal.returns-in_err-t
returns-in_err-t c =
    let (running, _) = c.loop-member_index.invariant in
    let stepped = c.after_member.ensures.stepped in
    rw (passed_on _ _ c.from_residual.ensures.1) (
    run_refuses running (sym c.is_next.ensures ∙ c.loop-member_index-test.true) member_layout member-kind stepped _
    c.in_err-t.was)

pub returns : goal.returns
returns c =
    let (running, _) = c.loop-member_index.invariant in
    run_ends running (sym c.is_next.ensures ∙ c.loop-member_index-test.false)
