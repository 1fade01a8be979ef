-- `verdict::examine::has_bad_length` tests in the order of the sentence. Assumes nothing.
use borrow.Author.Tests.{eq-eqb, ne_eqb, lt-ltb, le-ltb}
use Rattle.verdict.proofs.examine.has_bad_length.Goals as goal

pub returns-then-bytes-eq0 : goal.returns-then-bytes-eq0
returns-then-bytes-eq0 c = simp (eq-eqb _ _ c.if-bytes-eq0.true)

pub returns-then-bytes-gt-LONGEST_TABLE : goal.returns-then-bytes-gt-LONGEST_TABLE
returns-then-bytes-gt-LONGEST_TABLE c = simp (ne_eqb _ _ c.if-bytes-eq0.false, lt-ltb _ _ c.if-bytes-gt-LONGEST_TABLE.true)

pub returns : goal.returns
returns c = simp (ne_eqb _ _ c.if-bytes-eq0.false, le-ltb _ _ c.if-bytes-gt-LONGEST_TABLE.false)
