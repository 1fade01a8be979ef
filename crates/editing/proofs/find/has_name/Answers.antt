-- `editing::find::has_name` compares near bridge and port. Assumes nothing.
use Rattle.editing.proofs.laws.FindLaws.{other-near, same-near}
use Rattle.editing.proofs.find.has_name.Goals as goal

pub returns-then-h-name : goal.returns-then-h-name
returns-then-h-name c = other-near _ _ _ c.half_link-h.ensures c.if-h-name.true

pub returns : goal.returns
returns c = same-near _ _ _ c.half_link-h.ensures c.if-h-name.false
