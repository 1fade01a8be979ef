-- What the loops of `runs::run::read_indexed_traffic` keep true.
use Prim.Native.Nat.{◌-◌}
use lib.ListN.{length}
use Rattle.rule.specs.Words.{words_of}
use Rattle.table.specs.Positions.{words_read, vids_from, traffic_from}
use Rattle.earlier.specs.Keys.{VidIndex, TrafficIndex}
use Rattle.runs.proofs.laws.RunLaws.{Running}
use Rattle.runs.proofs.run.read_indexed_traffic.Given as goal

abbrev pub invariant-loop-vid_index : goal.invariant-loop-vid_index
invariant-loop-vid_index l = Running (words_of l.table) 5 l.initial.t l.t
    × VidIndex l.vid_index (words_of l.table) (vids_from l.t) l.t.vids
    × TrafficIndex l.traffic_index (words_of l.table) (traffic_from l.t) l.t.traffic

abbrev pub decreases-loop-vid_index : goal.decreases-loop-vid_index
decreases-loop-vid_index l = length (words_of l.table) - words_read l.t
