-- `earlier::traffic::is_vid_indexed` looks the VID up. Assumes nothing.
use Rattle.earlier.proofs.traffic.is_vid_indexed.Goals as goal

pub returns : goal.returns
returns c = simp c.last_place.ensures
