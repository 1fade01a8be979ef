-- `earlier::traffic::repeats_traffic` compares VIDs, then from, then to. Assumes nothing.
use borrow.Author.Tests.{eq-eqb, ne_eqb}
use Rattle.earlier.proofs.traffic.repeats_traffic.Goals as goal

pub returns-then-earlier-t : goal.returns-then-earlier-t
returns-then-earlier-t c = simp (ne_eqb _ _ c.if-earlier-t.true)

pub returns-then-earlier-t-2 : goal.returns-then-earlier-t-2
returns-then-earlier-t-2 c = simp (eq-eqb _ _ c.if-earlier-t.false, ne_eqb _ _ c.if-earlier-t-2.true)

pub returns : goal.returns
returns c =
    simp (
      eq-eqb c.args.earlier.vid c.args.t.vid c.if-earlier-t.false,
      eq-eqb c.args.earlier.from c.args.t.from c.if-earlier-t-2.false,
    )
