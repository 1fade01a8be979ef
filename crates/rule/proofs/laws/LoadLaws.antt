-- Loads by single records of traffic, and the two sums that a total is (02, A5). Assumes nothing.
use Rattle.std.specs.Prelude.{ℕ, ◌*◌, ◌≤◌, ◌<◌, ◌≡◌, refl, List, Bool, true, false, cond, length}
use Rattle.std.proofs.Common.{arith, mul_comm, mul-le-mul_right, sym, ap, ◌∙◌}
use Rattle.std.proofs.Math.Option.{Option, none, some}
use Rattle.std.proofs.Math.Bool.{not}
use Rattle.lists.specs.Lists.{selected}
use Rattle.lists.specs.Members.{In, sum_over}
use Rattle.lists.proofs.laws.MemberLaws.{map_at}
use Rattle.lists.proofs.laws.FirstPassing.{first-selected}
use Rattle.lists.proofs.laws.SumLaws.{sum_same, sum_nothing, sum_bounded, sum_selected, sum_exchanged}
use Rattle.graph.specs.Graph.{hops}
use Rattle.graph.specs.Chosen.{Chosen}
use Rattle.graph.specs.Pairs.{Pair, joined_pairs}
use Rattle.graph.proofs.laws.PairLaws.{pairs_taken}
use Rattle.graph.proofs.laws.Enumeration.{chosen_is}
use Rattle.graph.proofs.laws.ChosenPaths.{chosen-fits}
use Rattle.rule.specs.Records.{Vid, Traffic}
use Rattle.rule.specs.Plan.{Plan, has_vid, vid_record, plan_of_vid}
use Rattle.rule.specs.PlanLaws.{PlanLaws}
use Rattle.rule.specs.Links.{graph_of}
use Rattle.rule.specs.Identifiers.{key_of}
use Rattle.rule.specs.Paths.{chosen_path}
use Rattle.rule.specs.Loads.{own_indexes, vid_place, index_for, traffic_path, hops_of, has_path, path_takes, load_of, total_load, lost_load}
use Rattle.rule.specs.LoadsAddUp.{LoadsAddUp, OwnPaths}
use Rattle.rule.proofs.laws.Accepted.{accepted-laws}
use Rattle.rule.proofs.laws.CallLaws.{vid-found}
use Rattle.rule.proofs.laws.LinkLaws.{graph-laws}
use Rattle.rule.proofs.laws.IdentifierLaws.{key_laws}

-- What one record gives a pair, and what it gives to the lost amounts.
abbrev pub given : Plan → List ℕ → Pair → Traffic → ℕ
given p indexes q t = cond (path_takes q (traffic_path p indexes t)) t.amount 0

abbrev pub not_given : Plan → List ℕ → Traffic → ℕ
not_given p indexes t = cond (not (has_path (traffic_path p indexes t))) t.amount 0

-- "amount times hops".
abbrev pub carried : Plan → List ℕ → Traffic → ℕ
carried p indexes t = hops_of (traffic_path p indexes t) * t.amount

module _ (p : Plan) (indexes : List ℕ) where
  pub load_by_records : (ts : List Traffic) (q : Pair) → load_of p indexes ts q ≡ sum_over (given p indexes q) ts
  unfolding load_of
  load_by_records ts q = sum_selected (λ t. t.amount) (λ t. path_takes q (traffic_path p indexes t)) ts

  pub lost_by_records : (ts : List Traffic) → lost_load p indexes ts ≡ sum_over (not_given p indexes) ts
  unfolding lost_load
  lost_by_records ts = sum_selected (λ t. t.amount) (λ t. not (has_path (traffic_path p indexes t))) ts

  module _ (L : PlanLaws p) where
    -- The path of a record is chosen by its index of the assignment.
    pub traffic-chosen : (t : Traffic) (path : List ℕ) → traffic_path p indexes t ≡ some path
        → Chosen (graph_of p) (key_of p (index_for p indexes t)) t.from t.to path
    unfolding traffic_path chosen_path
    traffic-chosen t path e =
        chosen_is (graph_of p) (graph-laws p L) (key_of p (index_for p indexes t)) (key_laws p L (index_for p indexes t)) t.from t.to path e

    -- One record, over all joined pairs: "amount times hops".
    record-carried : (t : Traffic) → sum_over (λ q. given p indexes q t) (joined_pairs (graph_of p)) ≡ carried p indexes t
    record-carried t = go (traffic_path p indexes t) (traffic-chosen t)
      where
        go : (o : Option (List ℕ))
            → ((path : List ℕ) → o ≡ some path → Chosen (graph_of p) (key_of p (index_for p indexes t)) t.from t.to path)
            → sum_over (λ q. cond (path_takes q o) t.amount 0) (joined_pairs (graph_of p)) ≡ hops_of o * t.amount
        go none f = sum_nothing (joined_pairs (graph_of p)) ∙ omega arith
        go (some path) f =
            pairs_taken (graph_of p) (graph-laws p L) (key_of p (index_for p indexes t)) t.from t.to path (f path refl) t.amount

    -- Total is "also the sum of amount times hops".
    pub total_by_records : (ts : List Traffic) → total_load p indexes ts ≡ sum_over (carried p indexes) ts
    unfolding total_load
    total_by_records ts =
        sum_same (load_of p indexes ts) (λ q. sum_over (given p indexes q) ts) (joined_pairs (graph_of p)) (λ q i. load_by_records ts q)
        ∙ sum_exchanged (λ q t. given p indexes q t) (joined_pairs (graph_of p)) ts
        ∙ sum_same (λ t. sum_over (λ q. given p indexes q t) (joined_pairs (graph_of p))) (carried p indexes) ts (λ t i. record-carried t)

    -- No path has more than 63 hops.
    pub few-hops : (t : Traffic) → t.from < length p.bridges → hops_of (traffic_path p indexes t) ≤ 63
    few-hops t h = go (traffic_path p indexes t) (traffic-chosen t)
      where
        go : (o : Option (List ℕ))
            → ((path : List ℕ) → o ≡ some path → Chosen (graph_of p) (key_of p (index_for p indexes t)) t.from t.to path)
            → hops_of o ≤ 63
        go none f = omega arith
        go (some path) f = omega (
          arith,
          chosen-fits (graph_of p) (graph-laws p L) (key_of p (index_for p indexes t)) t.from t.to path h (f path refl),
          L.bridges.few,
        )

  -- The greatest loads: of 256 records with the greatest amount.
  module _ (ts : List Traffic) (few : length ts ≤ 256) (amounts : (t : Traffic) → In t ts → t.amount ≤ 65535) where
    at_most : (b : Bool) (n : ℕ) → cond b n 0 ≤ n
    at_most true n = omega arith
    at_most false n = omega arith

    pub greatest_load : (q : Pair) → load_of p indexes ts q ≤ 256 * 65535
    greatest_load q = omega (
      arith,
      load_by_records ts q,
      sum_bounded (given p indexes q) 65535 ts (λ t i. omega (arith, at_most (path_takes q (traffic_path p indexes t)) t.amount, amounts t i)),
    )

    pub greatest_lost : lost_load p indexes ts ≤ 256 * 65535
    greatest_lost = omega (
      arith,
      lost_by_records ts,
      sum_bounded (not_given p indexes) 65535 ts (λ t i. omega (arith, at_most (not (has_path (traffic_path p indexes t))) t.amount, amounts t i)),
    )

    pub greatest_total : PlanLaws p → ((t : Traffic) → In t ts → t.from < length p.bridges) → total_load p indexes ts ≤ 256 * (63 * 65535)
    greatest_total L known = omega (
      arith,
      total_by_records L ts,
      sum_bounded (carried p indexes) (63 * 65535) ts (λ t i. omega (
        arith,
        mul-le-mul_right t.amount (few-hops L t (known t i)),
        amounts t i,
      )),
    )

-- By the plan's own indexes the path of traffic is the one that the path call answers.
pub own-path : (p : Plan) (t : Traffic) (v : Vid) → vid_record p t.vid ≡ some v
    → traffic_path p (own_indexes p) t ≡ chosen_path (plan_of_vid p v) v.index t.from t.to
unfolding traffic_path
own-path p t v e =
    let (l, f) = first-selected (has_vid t.vid) p.vids v (record { vid = 0; index = 0 }) e
    in let own : index_for p (own_indexes p) t ≡ v.index = map_at (λ v. v.index) p.vids (vid_place p t.vid) (record { vid = 0; index = 0 }) 0 l ∙ ap (λ (w : Vid). w.index) f
    in λ i. chosen_path (plan_of_vid p (f i)) (own i) t.from t.to

-- "amount times hops" over the records that have a path: the others have no hop.
carried-selected : (p : Plan) (indexes : List ℕ) (ts : List Traffic) → sum_over (carried p indexes) ts
    ≡ sum_over (λ t. t.amount * hops_of (traffic_path p indexes t)) (selected (λ t. has_path (traffic_path p indexes t)) ts)
carried-selected p indexes ts =
    sum_same (carried p indexes) (λ t. cond (has_path (traffic_path p indexes t)) (t.amount * hops_of (traffic_path p indexes t)) 0) ts
    (λ t i. go t (traffic_path p indexes t))
    ∙ sym (sum_selected (λ t. t.amount * hops_of (traffic_path p indexes t)) (λ t. has_path (traffic_path p indexes t)) ts)
  where
    go : (t : Traffic) (o : Option (List ℕ)) → hops_of o * t.amount ≡ cond (has_path o) (t.amount * hops_of o) 0
    go t none = omega arith
    go t (some path) = mul_comm (hops path) t.amount

-- Total, lost and the greatest of each, for every accepted table and every assignment.
pub loads_add_up : LoadsAddUp
unfolding total_load lost_load
loads_add_up t p accepted indexes =
    let L = accepted-laws t p accepted
    in let few = L.traffic.few
    in let amounts : (r : Traffic) → In r p.traffic → r.amount ≤ 65535 = λ r i. (L.traffic.fits r i).greatest_amount
    in record {
      total_of_lines = refl;
      total_of_records = total_by_records p indexes L p.traffic ∙ carried-selected p indexes p.traffic;
      lost_of_others = refl;
      greatest_load = greatest_load p indexes p.traffic few amounts;
      greatest_lost = greatest_lost p indexes p.traffic few amounts;
      greatest_total = greatest_total p indexes p.traffic few amounts L (λ r i. (L.traffic.fits r i).from_known);
    }

pub own-paths : OwnPaths
own-paths t p accepted r i v k e =
    own-path p r v (ap (vid_record p) (sym e) ∙ vid-found p (accepted-laws t p accepted) v k)
