-- `earlier::repeats::repeats_member` compares bridges, I-SIDs, VIDs. Assumes nothing.
use borrow.Author.Tests.{eq-eqb, ne_eqb}
use Rattle.earlier.proofs.repeats.repeats_member.Goals as goal

pub returns-then-earlier-m : goal.returns-then-earlier-m
returns-then-earlier-m c = simp (ne_eqb _ _ c.if-earlier-m.true)

pub returns-then-earlier-m-2 : goal.returns-then-earlier-m-2
returns-then-earlier-m-2 c = simp (eq-eqb _ _ c.if-earlier-m.false, ne_eqb _ _ c.if-earlier-m-2.true)

pub returns : goal.returns
returns c =
    simp (
      eq-eqb c.args.earlier.bridge c.args.m.bridge c.if-earlier-m.false,
      eq-eqb c.args.earlier.isid c.args.m.isid c.if-earlier-m-2.false,
    )
