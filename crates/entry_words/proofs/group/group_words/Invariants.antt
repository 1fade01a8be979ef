-- What the loops of `entry_words::group::group_words` keep true.
use Rattle.entry_words.proofs.laws.EntryWordLaws.{Listing, Seeking}
use Rattle.entry_words.proofs.group.group_words.Given as goal

abbrev pub invariant-loop-receiver_port : goal.invariant-loop-receiver_port
invariant-loop-receiver_port l = Seeking l.behind l.port l.initial.words l.initial.end l.receiver_port-index l.words l.end

abbrev pub invariant-ports : goal.invariant-ports
invariant-ports l = Listing l.ports l.behind l.vid l.address l.initial.words l.at l.port-index l.words l.end
