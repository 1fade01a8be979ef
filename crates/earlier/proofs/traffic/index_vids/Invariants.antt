-- What the loops of `earlier::traffic::index_vids` keep true.
use Prim.Native.Nat.{◌≤◌}
use Rattle.rule.specs.Words.{words_of}
use Rattle.earlier.specs.Keys.{VidIndex}
use Rattle.earlier.proofs.traffic.index_vids.Given as goal

abbrev pub invariant-loop-i : goal.invariant-loop-i
invariant-loop-i l = VidIndex l.vid_index (words_of l.table) l.from l.i × (l.i ≤ l.vids)
