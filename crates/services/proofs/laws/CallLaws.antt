-- The answers of the calls of services (02, A2), from the examination of the table and from what was asked of its plan. Assumes nothing.
use Rattle.std.specs.Prelude.{ℕ, ◌≡◌, List, Result, Ok, Err}
use Rattle.std.proofs.Math.Path.{ap}
use Rattle.std.proofs.Common.{◌∙◌}
use Rattle.rule.specs.declared.refusal.Refusal.{Refusal}
use Rattle.rule.specs.Words.{words_of}
use Rattle.rule.specs.Outcome.{Outcome, lent_to}
use Rattle.rule.specs.Refusals.{refused_by}
use Rattle.rule.specs.Check.{verdict}
use Rattle.rule.specs.Services.{plan_read, read_services_answer, read_services_outcome, plan_write, write_services_answer, write_services_outcome}
use Rattle.table.specs.declared.shape.Shape.{Shape}
use Rattle.table.specs.Positions.{plan_at}
use Rattle.verdict.specs.Examination.{examined_values}
use Rattle.verdict.proofs.laws.AskedLaws.{asked, not-asked}

module _ (t : List ℕ) (r : Result Shape Refusal) (e : examined_values (words_of t) r ≡ verdict t) where
  module _ (s : Shape) (f : r ≡ Ok s) where
    pub read-accepted : (bytes list : List ℕ) (o : Outcome ℕ × List ℕ)
        → o ≡ lent_to list (plan_read (plan_at (words_of t) s) bytes) → o ≡ read_services_outcome t bytes list
    unfolding read_services_outcome read_services_answer
    read-accepted bytes list o g = g ∙ ap (lent_to list) (asked t r e (λ p. plan_read p bytes) s f)

    pub write_accepted : (b vid : ℕ) (list : List ℕ) (o : Outcome ℕ × List ℕ)
        → o ≡ lent_to list (plan_write (plan_at (words_of t) s) b vid) → o ≡ write_services_outcome t b vid list
    unfolding write_services_outcome write_services_answer
    write_accepted b vid list o g = g ∙ ap (lent_to list) (asked t r e (λ p. plan_write p b vid) s f)

  module _ (refusal : Refusal) (f : r ≡ Err refusal) where
    pub read-refused : (bytes list : List ℕ) (o : Outcome ℕ) → o ≡ refused_by refusal
        → ◌≡◌ {A = Outcome ℕ × List ℕ} (o, list) (read_services_outcome t bytes list)
    unfolding read_services_outcome read_services_answer
    read-refused bytes list o g = (λ i. (g i, list)) ∙ ap (lent_to list) (not-asked t r e (λ p. plan_read p bytes) refusal f)

    pub write_refused : (b vid : ℕ) (list : List ℕ) (o : Outcome ℕ) → o ≡ refused_by refusal
        → ◌≡◌ {A = Outcome ℕ × List ℕ} (o, list) (write_services_outcome t b vid list)
    unfolding write_services_outcome write_services_answer
    write_refused b vid list o g = (λ i. (g i, list)) ∙ ap (lent_to list) (not-asked t r e (λ p. plan_write p b vid) refusal f)
