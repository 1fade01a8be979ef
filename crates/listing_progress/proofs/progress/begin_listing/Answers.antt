-- `listing_progress::progress::begin_listing` begins with the verdict on the table, and makes the network of an accepted one. Assumes nothing.
use mathlib.Core.Path.{refl}
use Rattle.key_index.proofs.laws.IndexLaws.{no_keys_yet}
use Rattle.trees.proofs.laws.StoreLaws.{no_trees}
use Rattle.listing_progress.proofs.laws.RemainingLaws.{begun-accepted, begun_refused}
use Rattle.listing_progress.proofs.progress.begin_listing.Goals as goal

pub examine-examined-requires : goal.examine-examined-requires
examine-examined-requires c = no_keys_yet

pub make_network-requires : goal.make_network-requires
make_network-requires c =
    let passed = c.examine-examined.ensures.passed in
    let (network-length, _, _) = c.requires in
    let (checked, link-index) = passed _ c.in-Ok.is in
    (checked, link-index, network-length)

pub counts-requires : goal.counts-requires
counts-requires c =
    let passed = c.examine-examined.ensures.passed in
    passed _ c.in-Ok.is

pub returns-in-Ok : goal.returns-in-Ok
returns-in-Ok c =
    let examine-is = c.examine-examined.ensures.result_value in
    let (_, store-room, all-zero) = c.requires in
    let both = begun-accepted _ _ (rw c.in-Ok.is at examine-is) _ refl c.make_network.ensures
    (no_trees _ _ store-room all-zero) _ c.counts.ensures in record {
      result_value = both.0;
      underway = both.1;
    }

pub returns-in-Err : goal.returns-in-Err
returns-in-Err c =
    let examine-is = c.examine-examined.ensures.result_value in let both = begun_refused _ _ examine-is _ c.in-Err.is _ in record {
      result_value = both.0;
      underway = both.1;
    }
