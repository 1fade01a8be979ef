-- What the examination of a table found, and what the calls ask of the table then. Assumes nothing.
use Rattle.std.specs.Prelude.{ℕ, ◌≡◌, List, Result, Ok, Err}
use Rattle.std.proofs.Common.{sym, ap, ◌∙◌}
use Rattle.rule.specs.declared.refusal.Refusal.{Refusal}
use Rattle.rule.specs.Words.{words_of}
use Rattle.rule.specs.Outcome.{Outcome, and_then}
use Rattle.rule.specs.Refusals.{refused_by}
use Rattle.rule.specs.Plan.{Plan}
use Rattle.rule.specs.Check.{verdict}
use Rattle.table.specs.declared.shape.Shape.{Shape}
use Rattle.table.specs.Positions.{plan_at}
use Rattle.verdict.specs.Examination.{examined_values}

module _ (t : List ℕ) (r : Result Shape Refusal) (e : examined_values (words_of t) r ≡ verdict t) where
  module _ {A : Type 0} (ask : Plan → Outcome A) where
    -- What is asked of an accepted table is asked of its plan; a refusal is passed on.
    pub asked : (s : Shape) → r ≡ Ok s → ask (plan_at (words_of t) s) ≡ and_then (verdict t) ask
    asked s f = sym (ap (λ (x : Result Shape Refusal). and_then (examined_values (words_of t) x) ask) f) ∙ ap (λ (o : Outcome Plan). and_then o ask) e

    pub not-asked : (refusal : Refusal) → r ≡ Err refusal → refused_by refusal ≡ and_then (verdict t) ask
    not-asked refusal f =
        sym (ap (λ (x : Result Shape Refusal). and_then (examined_values (words_of t) x) ask) f) ∙ ap (λ (o : Outcome Plan). and_then o ask) e
