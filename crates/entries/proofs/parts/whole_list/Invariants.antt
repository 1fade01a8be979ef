-- What the loops of `entries::parts::whole_list` keep true.
use Rattle.rule.specs.Words.{words_of}
use Rattle.lists.proofs.laws.AppendingLaws.{Appending}
use Rattle.entries.specs.Parts.{vid_part}
use Rattle.entries.proofs.parts.whole_list.Given as goal

abbrev pub invariant-loop-k : goal.invariant-loop-k
invariant-loop-k l = Appending (vid_part (words_of l.table) l.s l.egress_rows l.ports l.b) l.s.vids l.initial.words 0 l.k l.words l.end
