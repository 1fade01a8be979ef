-- What the loops of `listing_parts::path_lines::write_path_lines` keep true.
use mathlib.Core.Path.{◌≡◌}
use lib.ListN.{length}
use Rattle.lists.proofs.laws.AppendingLaws.{AppendingFew}
use Rattle.rule.specs.Words.{words_of}
use Rattle.table.specs.Positions.{plan_at}
use Rattle.table.specs.Numbered.{vid_number}
use Rattle.trees.specs.Store.{TreesKept}
use Rattle.listing_parts.proofs.laws.PairLines.{pair_line}
use Rattle.listing_parts.proofs.path_lines.write_path_lines.Given as goal

abbrev pub invariant-loop-to : goal.invariant-loop-to
invariant-loop-to l = AppendingFew (pair_line (plan_at (words_of l.table) l.fn.s) (vid_number (words_of l.table) l.fn.s l.k).vid l.from) 764 l.fn.s.bridges l.initial.out 0 l.to l.out l.next
    × TreesKept l.network l.store × (length l.path_ids ≡ length l.initial.path_ids) × (length l.store ≡ length l.initial.store)
