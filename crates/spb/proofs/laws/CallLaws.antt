-- The answers of the calls, and the numbers of the exported functions, from the examination of the table and from what was asked of its
-- plan. Assumes nothing.
use Rattle.std.specs.Prelude.{ℕ, ◌+◌, ◌≡◌, List, Result, Ok, Err}
use Rattle.std.proofs.Math.Path.{ap}
use Rattle.std.proofs.Common.{◌∙◌}
use Rattle.rule.specs.declared.answer.Counts.{Counts}
use Rattle.rule.specs.declared.refusal.Refusal.{Refusal}
use Rattle.rule.specs.Words.{words_of}
use Rattle.rule.specs.Outcome.{Outcome, answered, lent_to}
use Rattle.rule.specs.Answers.{CostAndHops}
use Rattle.rule.specs.Refusals.{refused_by}
use Rattle.rule.specs.Check.{verdict}
use Rattle.rule.specs.Calls.{counts_of, check_outcome, plan_path, path_answer, path_outcome, plan_branches, lent_to_three, tree_outcome, plan_entries, entries_answer, entries_outcome}
use Rattle.rule.specs.Exported.{check_number, exported_check, cost_number, exported_path_cost}
use Rattle.table.specs.declared.shape.Shape.{Shape}
use Rattle.table.specs.Positions.{plan_at}
use Rattle.verdict.specs.Examination.{examined_values}
use Rattle.verdict.proofs.laws.AskedLaws.{asked, not-asked}

module _ (t : List ℕ) (r : Result Shape Refusal) (e : examined_values (words_of t) r ≡ verdict t) where
  module _ (s : Shape) (f : r ≡ Ok s) where
    pub check-accepted : (c : Counts) → c ≡ counts_of (plan_at (words_of t) s) → answered c ≡ check_outcome t
    unfolding check_outcome
    check-accepted c g = ap (λ (x : Counts). answered x) g ∙ asked t r e (λ p. answered (counts_of p)) s f

    pub accepted-number : 0 ≡ exported_check t
    unfolding exported_check check_outcome
    accepted-number = ap check_number (asked t r e (λ p. answered (counts_of p)) s f)

    pub path-accepted : (vid a b : ℕ) (list : List ℕ) (o : Outcome CostAndHops × List ℕ)
        → o ≡ lent_to list (plan_path (plan_at (words_of t) s) vid a b) → o ≡ path_outcome t vid a b list
    unfolding path_outcome path_answer
    path-accepted vid a b list o g = g ∙ ap (lent_to list) (asked t r e (λ p. plan_path p vid a b) s f)

    pub cost-accepted : (vid a b number : ℕ) → number ≡ cost_number (plan_path (plan_at (words_of t) s) vid a b)
        → number ≡ exported_path_cost t vid a b
    unfolding exported_path_cost path_answer
    cost-accepted vid a b number g = g ∙ ap cost_number (asked t r e (λ p. plan_path p vid a b) s f)

    pub tree-accepted : (vid a : ℕ) (costs hop_counts lasts : List ℕ) (o : Outcome ℕ × List ℕ × List ℕ × List ℕ)
        → o ≡ lent_to_three costs hop_counts lasts (plan_branches (plan_at (words_of t) s) vid a) → o ≡ tree_outcome t vid a costs hop_counts lasts
    unfolding tree_outcome
    tree-accepted vid a costs hop_counts lasts o g =
        g ∙ ap (lent_to_three costs hop_counts lasts) (asked t r e (λ p. plan_branches p vid a) s f)

    pub entries_accepted : (b : ℕ) (list : List ℕ) (o : Outcome ℕ × List ℕ)
        → o ≡ lent_to list (plan_entries (plan_at (words_of t) s) b) → o ≡ entries_outcome t b list
    unfolding entries_outcome entries_answer
    entries_accepted b list o g = g ∙ ap (lent_to list) (asked t r e (λ p. plan_entries p b) s f)

  module _ (refusal : Refusal) (f : r ≡ Err refusal) where
    pub check-refused : refused_by refusal ≡ check_outcome t
    unfolding check_outcome
    check-refused = not-asked t r e (λ p. answered (counts_of p)) refusal f

    pub refused-number : refusal.number ≡ exported_check t
    unfolding exported_check check_outcome
    refused-number = ap check_number (not-asked t r e (λ p. answered (counts_of p)) refusal f)

    pub path-refused : (vid a b : ℕ) (list : List ℕ) (o : Outcome CostAndHops) → o ≡ refused_by refusal
        → ◌≡◌ {A = Outcome CostAndHops × List ℕ} (o, list) (path_outcome t vid a b list)
    unfolding path_outcome path_answer
    path-refused vid a b list o g = (λ i. (g i, list)) ∙ ap (lent_to list) (not-asked t r e (λ p. plan_path p vid a b) refusal f)

    pub cost-refused : (vid a b : ℕ) → 4294967296 + refusal.number ≡ exported_path_cost t vid a b
    unfolding exported_path_cost path_answer
    cost-refused vid a b = ap cost_number (not-asked t r e (λ p. plan_path p vid a b) refusal f)

    pub tree-refused : (vid a : ℕ) (costs hop_counts lasts : List ℕ) (o : Outcome ℕ) → o ≡ refused_by refusal
        → ◌≡◌ {A = Outcome ℕ × List ℕ × List ℕ × List ℕ} (o, costs, hop_counts, lasts) (tree_outcome t vid a costs hop_counts lasts)
    unfolding tree_outcome
    tree-refused vid a costs hop_counts lasts o g =
        (λ i. (g i, costs, hop_counts, lasts))
        ∙ ap (lent_to_three costs hop_counts lasts) (not-asked t r e (λ p. plan_branches p vid a) refusal f)

    pub entries_refused : (b : ℕ) (list : List ℕ) (o : Outcome ℕ) → o ≡ refused_by refusal
        → ◌≡◌ {A = Outcome ℕ × List ℕ} (o, list) (entries_outcome t b list)
    unfolding entries_outcome entries_answer
    entries_refused b list o g = (λ i. (g i, list)) ∙ ap (lent_to list) (not-asked t r e (λ p. plan_entries p b) refusal f)
