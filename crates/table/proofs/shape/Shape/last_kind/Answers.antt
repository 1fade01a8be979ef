-- `table::shape::Shape::last_kind` gives the highest kind of which a record was read. Assumes nothing.
use borrow.Author.Tests.{lt-ltb, le-ltb}
use Rattle.table.proofs.shape.Shape.last_kind.Goals as goal

pub returns-then-self-gt0 : goal.returns-then-self-gt0
returns-then-self-gt0 c = simp (lt-ltb _ _ c.if-self-gt0.true)

pub returns-then-self-gt0-2 : goal.returns-then-self-gt0-2
returns-then-self-gt0-2 c = simp (le-ltb _ _ c.if-self-gt0.false, lt-ltb _ _ c.if-self-gt0-2.true)

pub returns-then-self-gt0-3 : goal.returns-then-self-gt0-3
returns-then-self-gt0-3 c =
    simp (le-ltb _ _ c.if-self-gt0.false, le-ltb _ _ c.if-self-gt0-2.false, lt-ltb _ _ c.if-self-gt0-3.true)

pub returns-then-self-gt0-4 : goal.returns-then-self-gt0-4
returns-then-self-gt0-4 c =
    simp (le-ltb _ _ c.if-self-gt0.false, le-ltb _ _ c.if-self-gt0-2.false, le-ltb _ _ c.if-self-gt0-3.false, lt-ltb _ _ c.if-self-gt0-4.true)

pub returns-then-self-gt0-5 : goal.returns-then-self-gt0-5
returns-then-self-gt0-5 c =
    simp (
      le-ltb _ _ c.if-self-gt0.false,
      le-ltb _ _ c.if-self-gt0-2.false,
      le-ltb _ _ c.if-self-gt0-3.false,
      le-ltb _ _ c.if-self-gt0-4.false,
      lt-ltb _ _ c.if-self-gt0-5.true,
    )

pub returns : goal.returns
returns c =
    simp (
      le-ltb _ _ c.if-self-gt0.false,
      le-ltb _ _ c.if-self-gt0-2.false,
      le-ltb _ _ c.if-self-gt0-3.false,
      le-ltb _ _ c.if-self-gt0-4.false,
      le-ltb _ _ c.if-self-gt0-5.false,
    )
