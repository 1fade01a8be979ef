-- What the loops of `service_reading::advertiser::bridge_with` keep true.
use Rattle.rule.specs.Words.{words_of}
use Rattle.service_reading.proofs.laws.NamedLaws.{SeekingBridge}
use Rattle.service_reading.proofs.advertiser.bridge_with.Given as goal

abbrev pub invariant-loop-d : goal.invariant-loop-d
invariant-loop-d l = SeekingBridge (words_of l.table) l.s l.address l.d
