-- `earlier::half_link::is_port_repeated` looks the key up. Assumes nothing.
use Rattle.earlier.proofs.half_link.is_port_repeated.Goals as goal

pub returns : goal.returns
returns c = simp (c.last_place.ensures, c.port_key.ensures)
