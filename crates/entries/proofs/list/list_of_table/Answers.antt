-- `entries::list::list_of_table` makes the network of the table and the bridge's list from it. Assumes nothing.
use native.Mathlib.Omega.{arith}
use Prim.Native.Nat.{ℕ}
use lib.ListN.{get_or-replicate}
use Rattle.trees.proofs.laws.StoreLaws.{no_trees}
use Rattle.entries.proofs.list.list_of_table.Goals as goal

pub list_in_network-requires : goal.list_in_network-requires
list_in_network-requires c =
    let (_, b-bound, words-room, _) = c.requires in (
      c.make_network.ensures,
      b-bound,
      omega arith,
      no_trees _ _ (omega arith) (λ i l. get_or-replicate {A = ℕ} 321 i 0 0 (omega arith)),
      words-room,
    )
