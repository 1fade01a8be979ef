-- What the loops of `loads::traffic::vid_place` keep true.
use Rattle.rule.specs.Words.{words_of}
use Rattle.loads.proofs.laws.TrafficLaws.{SeekingPlace}
use Rattle.loads.proofs.traffic.vid_place.Given as goal

abbrev pub invariant-loop-k : goal.invariant-loop-k
invariant-loop-k l = SeekingPlace (words_of l.table) l.s l.number l.k
