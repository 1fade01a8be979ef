-- What request A5 of document 02 says of total and lost, as a statement over every accepted table and every assignment of ECT indexes to
-- its VIDs, with the greatest numbers that a report can have. This file states; LoadLaws has the proof. Assumes nothing.
use Rattle.std.specs.Prelude.{ℕ, ◌*◌, ◌≤◌, ◌≡◌, List, not}
use Rattle.lists.specs.Lists.{selected}
use Rattle.lists.specs.Members.{In, sum_over}
use Rattle.graph.specs.Pairs.{Pair, joined_pairs}
use Rattle.rule.specs.Records.{Vid, Traffic}
use Rattle.rule.specs.Outcome.{answered}
use Rattle.rule.specs.Plan.{Plan, plan_of_vid}
use Rattle.rule.specs.Check.{verdict}
use Rattle.rule.specs.Links.{graph_of}
use Rattle.rule.specs.Paths.{chosen_path}
use Rattle.rule.specs.Loads.{own_indexes, traffic_path, has_path, hops_of, load_of, total_load, lost_load}

pub record AddsUp (p : Plan) (indexes : List ℕ) : Type 0 where
  -- "Total equals the sum of the load lines": over every joined pair.
  pub total_of_lines : total_load p indexes p.traffic ≡ sum_over (load_of p indexes p.traffic) (joined_pairs (graph_of p))
  -- "and also the sum of amount times hops over the records that have a path".
  pub total_of_records : total_load p indexes p.traffic
      ≡ sum_over (λ t. t.amount * hops_of (traffic_path p indexes t)) (selected (λ t. has_path (traffic_path p indexes t)) p.traffic)
  -- "Lost is the sum of the other amounts."
  pub lost_of_others : lost_load p indexes p.traffic
      ≡ sum_over (λ t. t.amount) (selected (λ t. not (has_path (traffic_path p indexes t))) p.traffic)
  -- 256 records of the amount 65,535, each of 63 hops.
  pub greatest_load : (q : Pair) → load_of p indexes p.traffic q ≤ 16776960
  pub greatest_lost : lost_load p indexes p.traffic ≤ 16776960
  pub greatest_total : total_load p indexes p.traffic ≤ 1056948480

abbrev pub LoadsAddUp : Type 0
LoadsAddUp = (t : List ℕ) (p : Plan) → verdict t ≡ answered p → (indexes : List ℕ) → AddsUp p indexes

-- By the plan's own indexes the path of a record is the chosen path of its VID.
abbrev pub OwnPaths : Type 0
OwnPaths =
    (t : List ℕ) (p : Plan) →
    verdict t ≡ answered p →
    (r : Traffic) →
    In r p.traffic →
    (v : Vid) →
    In v p.vids →
    v.vid ≡ r.vid →
    traffic_path p (own_indexes p) r ≡ chosen_path (plan_of_vid p v) v.index r.from r.to
