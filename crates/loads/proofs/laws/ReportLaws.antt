-- Records of traffic added one after the other are the loads of the plan (02, A5). Assumes nothing.
use Rattle.std.specs.Prelude.{ℕ, ◌+◌, ◌*◌, ◌≤◌, ◌<◌, ◌≡◌, refl, List, cond, not, length, get_or}
use Rattle.std.proofs.Common.{arith, sym, ap, ◌∙◌, subst}
use Rattle.std.proofs.Math.Option.{Option}
use Rattle.lists.specs.Lists.{rising}
use Rattle.lists.specs.Members.{sum_over}
use Rattle.lists.proofs.laws.SelectedLaws.{rising-in}
use Rattle.lists.proofs.laws.SumLaws.{sum_same, sum_places, sum_next}
use Rattle.graph.specs.Pairs.{Pair}
use Rattle.rule.specs.Records.{Traffic}
use Rattle.rule.specs.Plan.{Plan}
use Rattle.rule.specs.Paths.{chosen_path}
use Rattle.rule.specs.Loads.{no_traffic, traffic_path, has_path, hops_of, path_takes}
use Rattle.rule.proofs.laws.LoadLaws.{given, not_given, carried, load_by_records, lost_by_records, total_by_records}
use Rattle.network.specs.Layout.{bridges_in}
use Rattle.network.specs.Networks.{NetworkOf, TreeIn}
use Rattle.loads.specs.Places.{Placed, load_at, NoLoads, Room}
use Rattle.loads.specs.Sums.{Passable, labelled_option, RecordAdded}
use Rattle.loads.specs.Reports.{vid_word, amount_word, from_word, to_word, TrafficReady, path_of_words, TrafficAdded, traffic_at, TrafficWords, LoadsOf, LoadsIn}
use Rattle.loads.specs.declared.along.Sums.{Sums}
use Rattle.loads.proofs.laws.AlongLaws.{at_most}
use Rattle.loads.proofs.laws.TreeLaws.{labelled_option_lem, passable}

-- One record, by the tree that is rooted at its end.
module _ {net indexes words : List ℕ} {count : ℕ} (R : TrafficReady net indexes words count) (i : ℕ) (known : i < count) where
  pub index-fits : (vid_word words i < length indexes) × (1 ≤ get_or indexes (vid_word words i) 0) × (get_or indexes (vid_word words i) 0 ≤ 16)
  index-fits =
      let h = R.assigned i known
      in (h, R.least_index (vid_word words i) h, R.greatest_index (vid_word words i) h)

  pub words_fit : (amount_word words i ≤ 65535) × (from_word words i < bridges_in net) × (to_word words i < bridges_in net) × (bridges_in net ≤ 64) × (4 * i + 4 ≤ length words)
  words_fit = (
    R.amount i known,
    R.from_known i known,
    R.to_known i known,
    R.is_network.network.represents.most,
    omega (arith, R.size),
  )

  from_of : (p : Plan) → NetworkOf p net → from_word words i < length p.bridges
  from_of p N = omega (arith, words_fit.1, N.represents.size_is)

  module _ {labels : List ℕ} (T : TreeIn net (get_or indexes (vid_word words i) 0) (to_word words i) labels) where
    pub record-passable : Passable labels (from_word words i)
    record-passable =
        let N = R.is_network.network
        in passable R.is_network.plan N.laws (get_or indexes (vid_word words i) 0) (to_word words i) labels (T.of_plan R.is_network.plan N)
        (from_word words i) (from_of R.is_network.plan N)

    pub record_added : {before after : List ℕ} {sums : Sums} → RecordAdded (labelled_option labels (from_word words i)) (amount_word words i) before after sums
        → TrafficAdded net indexes words i before after sums
    record_added {before} {after} {sums} A = record {
      of_plan = λ p N. subst (λ (o : Option (List ℕ)). RecordAdded o (amount_word words i) before after sums)
          (labelled_option_lem p N.laws (get_or indexes (vid_word words i) 0) (to_word words i) labels (T.of_plan p N) (from_word words i) (from_of p N)) A;
      few = λ q P. omega (arith, A.each q P, at_most (path_takes q (labelled_option labels (from_word words i))) (amount_word words i), words_fit.0);
      few_total = A.few;
      few_lost = omega (arith, A.lost, at_most (not (has_path (labelled_option labels (from_word words i)))) (amount_word words i), words_fit.0);
    }

-- Of so many records, fewer.
pub fewer-ready : {net indexes words : List ℕ} {count : ℕ} → TrafficReady net indexes words count → (fewer : ℕ) → fewer ≤ count
    → TrafficReady net indexes words fewer
fewer-ready R fewer l = record {
  is_network = R.is_network;
  size = omega (arith, R.size);
  assigned = λ i h. R.assigned i (omega arith);
  least_index = R.least_index;
  greatest_index = R.greatest_index;
  amount = λ i h. R.amount i (omega arith);
  from_known = λ i h. R.from_known i (omega arith);
  to_known = λ i h. R.to_known i (omega arith);
}

-- What the record number `j` gives a pair, total and lost.
module _ (p : Plan) (indexes words : List ℕ) where
  abbrev pub given_at : Pair → ℕ → ℕ
  given_at q j = cond (path_takes q (path_of_words p indexes words j)) (amount_word words j) 0

  abbrev pub carried_at : ℕ → ℕ
  carried_at j = hops_of (path_of_words p indexes words j) * amount_word words j

  abbrev pub lost_at : ℕ → ℕ
  lost_at j = cond (not (has_path (path_of_words p indexes words j))) (amount_word words j) 0

-- The first `i` records are added.
pub record Adding (net indexes words : List ℕ) (i : ℕ) (loads : List ℕ) (total lost : ℕ) : Type 0 where
  pub each : (p : Plan) → NetworkOf p net → (q : Pair) → Placed q → load_at loads q ≡ sum_over (given_at p indexes words q) (rising 0 i)
  pub total_is : (p : Plan) → NetworkOf p net → total ≡ sum_over (carried_at p indexes words) (rising 0 i)
  pub lost_is : (p : Plan) → NetworkOf p net → lost ≡ sum_over (lost_at p indexes words) (rising 0 i)
  pub few : (q : Pair) → Placed q → load_at loads q ≤ i * 65535
  pub few_total : total ≤ i * (63 * 65535)
  pub few_lost : lost ≤ i * 65535

pub adding_starts : (net indexes words : List ℕ) {loads : List ℕ} → NoLoads loads 4096 → Adding net indexes words 0 loads 0 0
unfolding rising
adding_starts net indexes words {loads} N = record {
  each = λ p M q P. none q P;
  total_is = λ p M. refl;
  lost_is = λ p M. refl;
  few = λ q P. omega (arith, none q P);
  few_total = omega arith;
  few_lost = omega arith;
}
  where
    none : (q : Pair) → Placed q → load_at loads q ≡ 0
    none q P = N.none (64 * q.lower + q.higher) (omega (arith, P.rises, P.inside))

module _ {net indexes words : List ℕ} {i : ℕ} {loads : List ℕ} {total lost : ℕ} (A : Adding net indexes words i loads total lost) where
  pub adding_room : i < 256 → Room loads 65535
  adding_room h = record { fits = λ q P. omega (arith, A.few q P) }

  pub adding_on : {after : List ℕ} {sums : Sums} → TrafficAdded net indexes words i loads after sums
      → Adding net indexes words (i + 1) after (total + sums.total) (lost + sums.lost)
  adding_on T = record {
    each = λ p N q P. omega (arith, A.each p N q P, (T.of_plan p N).each q P, sum_next (given_at p indexes words q) i);
    total_is = λ p N. omega (arith, A.total_is p N, (T.of_plan p N).total, sum_next (carried_at p indexes words) i);
    lost_is = λ p N. omega (arith, A.lost_is p N, (T.of_plan p N).lost, sum_next (lost_at p indexes words) i);
    few = λ q P. omega (arith, A.few q P, T.few q P);
    few_total = omega (arith, A.few_total, T.few_total);
    few_lost = omega (arith, A.few_lost, T.few_lost);
  }

module _ {net indexes words : List ℕ} {i : ℕ} {loads : List ℕ} {total lost : ℕ} (A : Adding net indexes words i loads total lost) {count : ℕ} (all : i ≡ count) where
  -- By the plan of the network and the traffic of the words.
  module _ (p : Plan) (ts : List Traffic) (N : NetworkOf p net) (W : TrafficWords p ts words) (known : length ts ≡ count) where
    same-path : (j : ℕ) → j < length ts → path_of_words p indexes words j ≡ traffic_path p indexes (traffic_at ts j)
    unfolding traffic_path
    same-path j h = λ k. chosen_path p (get_or indexes (W.vid_is j h k) 0) (W.from_is j h k) (W.to_is j h k)

    -- A sum over the records is one over their words.
    by_words : (f : Traffic → ℕ) (g : ℕ → ℕ) → ((j : ℕ) → j < length ts → g j ≡ f (traffic_at ts j)) → sum_over g (rising 0 i) ≡ sum_over f ts
    by_words f g h =
        ap (λ (n : ℕ). sum_over g (rising 0 n)) (all ∙ sym known)
        ∙ sum_same g (λ j. f (traffic_at ts j)) (rising 0 (length ts)) (λ j k. h j (omega (arith, (rising-in 0 (length ts) j k).1)))
        ∙ sym (sum_places f ts no_traffic)

    plan_loads : LoadsOf p indexes ts loads (record { total = total; lost = lost })
    plan_loads = record {
      each = λ q P.
          A.each p N q P
          ∙ by_words (given p indexes q) (given_at p indexes words q) (λ j h k. cond (path_takes q (same-path j h k)) (W.amount_is j h k) 0)
          ∙ sym (load_by_records p indexes ts q);
      total =
          A.total_is p N
          ∙ by_words (carried p indexes) (carried_at p indexes words) (λ j h k. hops_of (same-path j h k) * W.amount_is j h k)
          ∙ sym (total_by_records p indexes N.laws ts);
      lost =
          A.lost_is p N
          ∙ by_words (not_given p indexes) (lost_at p indexes words) (λ j h k. cond (not (has_path (same-path j h k))) (W.amount_is j h k) 0)
          ∙ sym (lost_by_records p indexes ts);
    }

  pub adding_ends : LoadsIn net indexes words count loads (record { total = total; lost = lost })
  adding_ends = record { of_plan = plan_loads }
