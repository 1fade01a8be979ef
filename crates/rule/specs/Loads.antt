-- The load report (02, A5): what each joined pair of bridges carries, for any assignment of ECT indexes to the VIDs. The lines of a listing
-- are the report for the plan's own indexes. Pairs go by bridge numbers, and paths by the plan of their VID. Assumes nothing.
use Rattle.std.specs.Prelude.{ℕ, List, map, Bool, true, false, not, get_or}
use Rattle.std.proofs.Math.Option.{Option, none, some}
use Rattle.lists.specs.Lists.{selected, first_passing}
use Rattle.lists.specs.Members.{sum_over}
use Rattle.graph.specs.Graph.{hops}
use Rattle.graph.specs.Pairs.{Pair, joined_pairs, takes}
use Rattle.rule.specs.Records.{Traffic}
use Rattle.rule.specs.Plan.{Plan, vid_at, has_vid, plan_of_vid}
use Rattle.rule.specs.Links.{graph_of}
use Rattle.rule.specs.Paths.{chosen_path}

-- An assignment has an ECT index for each VID record, in record order. The plan's own has those of the records.
abbrev pub own_indexes : Plan → List ℕ
own_indexes p = map (λ v. v.index) p.vids

-- The number of a VID's record, counted from 0 in record order.
abbrev pub vid_place : Plan → ℕ → ℕ
vid_place p vid = first_passing (has_vid vid) p.vids

-- What stands for traffic that is not there.
abbrev pub no_traffic : Traffic
no_traffic = record { vid = 0; amount = 0; from = 0; to = 0 }

-- The index that the assignment has for the VID of traffic.
abbrev pub index_for : Plan → List ℕ → Traffic → ℕ
index_for p indexes t = get_or indexes (vid_place p t.vid) 0

-- The chosen path of traffic by that index, or none.
unfoldable pub traffic_path : Plan → List ℕ → Traffic → Option (List ℕ)
traffic_path p indexes t = chosen_path (plan_of_vid p (vid_at p (vid_place p t.vid))) (index_for p indexes t) t.from t.to

abbrev pub has_path : Option (List ℕ) → Bool
has_path none = false
has_path (some path) = true

-- Its hops, none where there is no path.
abbrev pub hops_of : Option (List ℕ) → ℕ
hops_of none = 0
hops_of (some path) = hops path

-- "whose chosen path takes that hop either way".
abbrev pub path_takes : Pair → Option (List ℕ) → Bool
path_takes q none = false
path_takes q (some path) = takes q path

-- "the sum of the amounts whose chosen path takes that hop either way".
unfoldable pub load_of : Plan → List ℕ → List Traffic → Pair → ℕ
load_of p indexes ts q = sum_over (λ t. t.amount) (selected (λ t. path_takes q (traffic_path p indexes t)) ts)

-- "Total equals the sum of the load lines": of every joined pair.
unfoldable pub total_load : Plan → List ℕ → List Traffic → ℕ
total_load p indexes ts = sum_over (load_of p indexes ts) (joined_pairs (graph_of p))

-- "Lost is the sum of the other amounts": of those that have no path.
unfoldable pub lost_load : Plan → List ℕ → List Traffic → ℕ
lost_load p indexes ts = sum_over (λ t. t.amount) (selected (λ t. not (has_path (traffic_path p indexes t))) ts)
