-- `listing::list` begins the listing with an empty store of trees, and prints its parts. Assumes nothing.
use native.Mathlib.Omega.{arith}
use Prim.Native.Nat.{ℕ}
use lib.ListN.{get_or-replicate}
use Rattle.listing.proofs.list.Goals as goal

pub begin_listing-begun-requires : goal.begin_listing-begun-requires
begin_listing-begun-requires c = (omega arith, omega arith, λ i l. get_or-replicate {A = ℕ} 328704 i 0 0 (omega arith))

pub print_parts-requires : goal.print_parts-requires
print_parts-requires c =
    let underway = c.begin_listing-begun.ensures.underway in record {
      underway = underway;
      in_bounds = (omega arith, omega arith, omega arith);
    }
