-- What the loops of `runs::run::read_members` keep true.
use Prim.Native.Nat.{◌-◌}
use lib.ListN.{length}
use Rattle.rule.specs.Words.{words_of}
use Rattle.table.specs.Positions.{words_read, members_from}
use Rattle.earlier.specs.Keys.{MemberIndex}
use Rattle.runs.proofs.laws.RunLaws.{Running}
use Rattle.runs.proofs.run.read_members.Given as goal

abbrev pub invariant-loop-member_index : goal.invariant-loop-member_index
invariant-loop-member_index l = Running (words_of l.table) 4 l.initial.t l.t × MemberIndex l.member_index (words_of l.table) (members_from l.t) l.t.members

abbrev pub decreases-loop-member_index : goal.decreases-loop-member_index
decreases-loop-member_index l = length (words_of l.table) - words_read l.t
