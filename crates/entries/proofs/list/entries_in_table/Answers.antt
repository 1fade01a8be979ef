-- `entries::list::entries_in_table` makes the list of a bridge that the table has, and copies it where it fits. Assumes nothing.
use native.Mathlib.Omega.{arith}
use mathlib.Core.Path.{ap, ◌∙◌}
use Prim.Native.Nat.{ℕ, ◌≤◌}
use lib.ListN.{length-take}
use Rattle.rule.specs.Outcome.{Outcome, Written, lent_to}
use Rattle.rule.specs.Refusals.{refused_by}
use Rattle.entries.proofs.laws.WholeLaws.{lacks_bridge, few-made, answer-made}
use Rattle.entries.proofs.list.entries_in_table.Goals as goal

pub returns-then-s-bridge : goal.returns-then-s-bridge
returns-then-s-bridge c =
    let (checked, _) = c.requires in
    ap (λ (o : Outcome ℕ). (o, c.args.list.now)) (c.from.ensures ∙ ap refused_by c.of_call.ensures)
    ∙ lacks_bridge checked _ c.if-s-bridge.true c.args.list.now

pub slice_bounds-words-end : goal.slice_bounds-words-end
slice_bounds-words-end c =
    let words-few : c.list_of_table-count.result ≤ 14931 =
    let (checked, _) = c.requires in
    few-made checked _ c.if-s-bridge.false c.list_of_table-count.ensures in omega (arith, words-few)

pub slice_bounds-fitted-end : goal.slice_bounds-fitted-end
slice_bounds-fitted-end c =
    let words-few : c.list_of_table-count.result ≤ 14931 =
    let (checked, _) = c.requires in
    few-made checked _ c.if-s-bridge.false c.list_of_table-count.ensures in simp length-take (omega (arith, words-few))

pub fitted-requires : goal.fitted-requires
fitted-requires c =
    let words-few : c.list_of_table-count.result ≤ 14931 =
    let (checked, _) = c.requires in
    few-made checked _ c.if-s-bridge.false c.list_of_table-count.ensures in simp length-take (omega (arith, words-few))

pub returns : goal.returns
returns c =
    let (checked, _) = c.requires in
    c.fitted.ensures
    ∙ ap (λ (o : Outcome (Written ℕ)). lent_to c.args.list.now o)
    (answer-made checked _ c.if-s-bridge.false c.list_of_table-count.ensures)
