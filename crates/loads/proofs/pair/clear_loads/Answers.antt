-- `loads::pair::clear_loads` clears the places in one fill. Assumes nothing.
use Rattle.loads.proofs.laws.PlaceLaws.{front_filled}
use Rattle.loads.proofs.pair.clear_loads.Goals as goal

pub returns : goal.returns
returns c = front_filled c.args.loads.now c.fill.new.self 4096 c.requires (c.fill.ensures.after (λ y h. h))
