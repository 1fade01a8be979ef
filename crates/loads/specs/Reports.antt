-- The loads of a plan's pairs for an assignment of ECT indexes to its VIDs, with total and lost (02, A5), where the records of traffic are
-- words: for each the number of its VID's record, its amount, from and to. Assumes nothing.
use Rattle.std.specs.Prelude.{ℕ, ◌+◌, ◌*◌, ◌≤◌, ◌<◌, ◌≡◌, List, length, get_or}
use Rattle.std.proofs.Math.Option.{Option}
use Rattle.graph.specs.Pairs.{Pair}
use Rattle.rule.specs.Records.{Traffic}
use Rattle.rule.specs.Plan.{Plan}
use Rattle.rule.specs.Paths.{chosen_path}
use Rattle.rule.specs.Loads.{no_traffic, vid_place, load_of, total_load, lost_load}
use Rattle.network.specs.Layout.{bridges_in}
use Rattle.network.specs.Networks.{NetworkOf, IsNetwork}
use Rattle.loads.specs.Places.{Placed, load_at}
use Rattle.loads.specs.Sums.{RecordAdded}
use Rattle.loads.specs.declared.along.Sums.{Sums}

-- The words of the record number `i`.
abbrev pub vid_word : List ℕ → ℕ → ℕ
vid_word words i = get_or words (4 * i) 0

abbrev pub amount_word : List ℕ → ℕ → ℕ
amount_word words i = get_or words (4 * i + 1) 0

abbrev pub from_word : List ℕ → ℕ → ℕ
from_word words i = get_or words (4 * i + 2) 0

abbrev pub to_word : List ℕ → ℕ → ℕ
to_word words i = get_or words (4 * i + 3) 0

-- The first `count` records name bridges of the network and VID records that the assignment has an ECT index for.
pub record TrafficReady (net indexes words : List ℕ) (count : ℕ) : Type 0 where
  pub is_network : IsNetwork net
  pub size : 4 * count ≤ length words
  pub assigned : (i : ℕ) → i < count → vid_word words i < length indexes
  pub least_index : (k : ℕ) → k < length indexes → 1 ≤ get_or indexes k 0
  pub greatest_index : (k : ℕ) → k < length indexes → get_or indexes k 0 ≤ 16
  pub amount : (i : ℕ) → i < count → amount_word words i ≤ 65535
  pub from_known : (i : ℕ) → i < count → from_word words i < bridges_in net
  pub to_known : (i : ℕ) → i < count → to_word words i < bridges_in net

-- The chosen path of the record number `i`, or none.
abbrev pub path_of_words : Plan → List ℕ → List ℕ → ℕ → Option (List ℕ)
path_of_words p indexes words i = chosen_path p (get_or indexes (vid_word words i) 0) (from_word words i) (to_word words i)

-- The record number `i` is added, for every plan that the network is that of.
pub record TrafficAdded (net indexes words : List ℕ) (i : ℕ) (before after : List ℕ) (sums : Sums) : Type 0 where
  pub of_plan : (p : Plan) → NetworkOf p net → RecordAdded (path_of_words p indexes words i) (amount_word words i) before after sums
  pub few : (q : Pair) → Placed q → load_at after q ≤ load_at before q + 65535
  pub few_total : sums.total ≤ 63 * 65535
  pub few_lost : sums.lost ≤ 65535

-- The words are those of the plan's traffic.
abbrev pub traffic_at : List Traffic → ℕ → Traffic
traffic_at ts i = get_or ts i no_traffic

pub record TrafficWords (p : Plan) (ts : List Traffic) (words : List ℕ) : Type 0 where
  pub vid_is : (i : ℕ) → i < length ts → vid_word words i ≡ vid_place p (traffic_at ts i).vid
  pub amount_is : (i : ℕ) → i < length ts → amount_word words i ≡ (traffic_at ts i).amount
  pub from_is : (i : ℕ) → i < length ts → from_word words i ≡ (traffic_at ts i).from
  pub to_is : (i : ℕ) → i < length ts → to_word words i ≡ (traffic_at ts i).to

-- The words of the record number `i` are written, and those before them are as they were.
pub record RecordWritten (p : Plan) (i : ℕ) (before after : List ℕ) : Type 0 where
  pub vid_is : vid_word after i ≡ vid_place p (traffic_at p.traffic i).vid
  pub amount_is : amount_word after i ≡ (traffic_at p.traffic i).amount
  pub from_is : from_word after i ≡ (traffic_at p.traffic i).from
  pub to_is : to_word after i ≡ (traffic_at p.traffic i).to
  pub kept : (j : ℕ) → j < 4 * i → get_or after j 0 ≡ get_or before j 0

-- The list has the load of every pair, and the sums are total and lost.
pub record LoadsOf (p : Plan) (indexes : List ℕ) (ts : List Traffic) (loads : List ℕ) (sums : Sums) : Type 0 where
  pub each : (q : Pair) → Placed q → load_at loads q ≡ load_of p indexes ts q
  pub total : sums.total ≡ total_load p indexes ts
  pub lost : sums.lost ≡ lost_load p indexes ts

-- They are so for every plan that the network is that of, and the traffic of the words.
pub record LoadsIn (net indexes words : List ℕ) (count : ℕ) (loads : List ℕ) (sums : Sums) : Type 0 where
  pub of_plan : (p : Plan) (ts : List Traffic) → NetworkOf p net → TrafficWords p ts words → length ts ≡ count → LoadsOf p indexes ts loads sums
