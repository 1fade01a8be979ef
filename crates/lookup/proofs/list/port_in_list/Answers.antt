-- `lookup::list::port_in_list` refuses a faulty list and answers from any other. Assumes nothing.
use mathlib.Core.Path.{◌∙◌}
use Rattle.rule.specs.Lookup.{lookup_outcome}
use Rattle.lookup.proofs.list.port_in_list.Goals as goal

pub returns-then-is_faulty_list : goal.returns-then-is_faulty_list
unfolding lookup_outcome
returns-then-is_faulty_list c =
    c.from.ensures ∙ rw c.of_call.ensures (simp (← c.is_faulty_list.ensures, c.if-is_faulty_list.true))

pub returns : goal.returns
unfolding lookup_outcome
returns c = simp (← c.is_faulty_list.ensures, c.if-is_faulty_list.false, c.matching.ensures)
