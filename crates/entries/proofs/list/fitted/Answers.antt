-- `entries::list::fitted` refuses a list that is too short and copies to one that is not. Assumes nothing.
use Prim.Native.Nat.{ℕ}
use mathlib.Core.Path.{ap, ◌∙◌}
use Rattle.rule.specs.Outcome.{Outcome}
use Rattle.rule.specs.Refusals.{refused_by}
use Rattle.rule.proofs.laws.CallLaws.{fits_not, fits_in}
use Rattle.entries.proofs.list.fitted.Goals as goal

pub returns-then-list-words : goal.returns-then-list-words
returns-then-list-words c =
    ap (λ (o : Outcome ℕ). (o, c.args.list.now)) (c.from.ensures ∙ ap refused_by c.of_call.ensures)
    ∙ fits_not c.args.words.now c.args.list.now c.if-list-words.true

pub returns : goal.returns
returns c = fits_in c.args.words.now c.args.list.now c.if-list-words.false c.copy.ensures
