-- The load report of a table, by its traffic as words, its own indexes, and the loads of its pairs. Assumes nothing.
use Rattle.std.specs.Prelude.{ℕ, ◌*◌, ◌≤◌, ◌<◌, ◌≡◌, length, get_or}
use Rattle.std.proofs.Common.{arith, sym, ◌∙◌}
use Rattle.std.proofs.Math.Path.{ap, subst}
use mathlib.Core.List.{List, ◌++◌, flat_map}
use Rattle.std.proofs.lemmas.List.{length-map}
use Rattle.lists.specs.Appending.{Appended}
use Rattle.lists.specs.Members.{In}
use Rattle.lists.proofs.laws.DistinctLaws.{place_in}
use Rattle.lists.proofs.laws.MemberLaws.{map_at}
use Rattle.lists.proofs.laws.FirstPassing.{first-selected}
use Rattle.lists.proofs.laws.GivenLaws.{flat_map-same}
use Rattle.graph.specs.Pairs.{Pair, joined_pairs}
use Rattle.graph.proofs.laws.PairLaws.{pair-joined}
use Rattle.rule.specs.Words.{words_of}
use Rattle.rule.specs.Records.{vid_of, traffic_of}
use Rattle.rule.specs.Plan.{Plan, has_vid, vid_record}
use Rattle.rule.specs.PlanLaws.{TrafficFits}
use Rattle.rule.specs.Links.{graph_of}
use Rattle.rule.specs.Loads.{no_traffic, own_indexes, vid_place, load_of, total_load, lost_load}
use Rattle.rule.proofs.laws.CallLaws.{vid-found}
use Rattle.table.specs.declared.shape.Shape.{Shape}
use Rattle.table.specs.Positions.{vids_from, traffic_from, plan_at}
use Rattle.table.proofs.laws.PositionLaws.{how_many}
use Rattle.network.specs.Networks.{TableNetwork}
use Rattle.network.proofs.laws.NetworkLaws.{is_network}
use Rattle.loads.specs.Places.{Placed, load_at}
use Rattle.loads.specs.Reports.{traffic_at, TrafficReady, TrafficWords, LoadsOf, LoadsIn}
use Rattle.loads.specs.declared.along.Sums.{Sums}
use Rattle.text.proofs.laws.TextLaws.{written_on}
use Rattle.listing_lines.specs.Listing.{load_line, sum_lines, load_report}
use Rattle.load_lines.specs.PairTexts.{PairLinesIn}

module _ {t : List ℕ} {s : Shape} {net : List ℕ} (N : TableNetwork t s net) where
  abbrev plan : Plan
  plan = plan_at (words_of t) s

  traffic-counted : length plan.traffic ≡ s.traffic
  traffic-counted = how_many traffic_of 2 (traffic_from s) (words_of t) s.traffic

  vids-counted : length plan.vids ≡ s.vids
  vids-counted = how_many vid_of 1 (vids_from s) (words_of t) s.vids

  pub few-traffic : s.traffic ≤ 256
  few-traffic = omega (arith, traffic-counted, N.checked.laws.traffic.few)

  pub few_vids : s.vids ≤ 16
  few_vids = omega (arith, vids-counted, N.checked.laws.vids.few)

  module _ (i : ℕ) (known : i < s.traffic) where
    listed : In (traffic_at plan.traffic i) plan.traffic
    listed = place_in plan.traffic i no_traffic (omega (arith, traffic-counted))

    -- The VID of a record has one, so its place is one of a VID record.
    placed : vid_place plan (traffic_at plan.traffic i).vid < length plan.vids
    placed =
        let (v, k, e) = (N.checked.laws.traffic.fits (traffic_at plan.traffic i) listed).vid_known
        in (first-selected (has_vid (traffic_at plan.traffic i).vid) plan.vids v (record { vid = 0; index = 0 })
        (ap (vid_record plan) (sym e) ∙ vid-found plan N.checked.laws v k)).0

  -- The traffic and the indexes of a table are ready for its network.
  pub traffic-ready : {words indexes : List ℕ} → TrafficWords plan plan.traffic words → 4 * s.traffic ≤ length words
      → indexes ≡ own_indexes plan → TrafficReady net indexes words s.traffic
  traffic-ready {words} {indexes} W room e = rw e (record {
    is_network = is_network N;
    size = room;
    assigned = λ i h. omega (arith, W.vid_is i (within i h), placed i h, length-map plan.vids (λ v. v.index));
    least_index = λ k h. (index_of_lem k h).0;
    greatest_index = λ k h. (index_of_lem k h).1;
    amount = λ i h. omega (arith, W.amount_is i (within i h), (fits i h).greatest_amount);
    from_known = λ i h. omega (arith, W.from_is i (within i h), (fits i h).from_known, N.network.represents.size_is);
    to_known = λ i h. omega (arith, W.to_is i (within i h), (fits i h).to_known, N.network.represents.size_is);
  })
    where
      within : (i : ℕ) → i < s.traffic → i < length plan.traffic
      within i h = omega (arith, traffic-counted)

      fits : (i : ℕ) → i < s.traffic → TrafficFits (length plan.bridges) plan.vids (traffic_at plan.traffic i)
      fits i h = N.checked.laws.traffic.fits (traffic_at plan.traffic i) (listed i h)

      index_of_lem : (k : ℕ) → k < length (own_indexes plan) → (1 ≤ get_or (own_indexes plan) k 0) × (get_or (own_indexes plan) k 0 ≤ 16)
      index_of_lem k h =
          let l : k < length plan.vids = omega (arith, length-map plan.vids (λ v. v.index))
          in let same = map_at (λ v. v.index) plan.vids k (record { vid = 0; index = 0 }) 0 l
          in let F = N.checked.laws.vids.fits (get_or plan.vids k (record { vid = 0; index = 0 })) (place_in plan.vids k (record { vid = 0; index = 0 }) l)
          in (omega (arith, same, F.least_index), omega (arith, same, F.greatest_index))

  -- The lines of all pairs, and the two sums after them.
  module _ {words indexes loads : List ℕ} {sums : Sums} (W : TrafficWords plan plan.traffic words) (own : indexes ≡ own_indexes plan)
      (L : LoadsIn net indexes words s.traffic loads sums) where
    loads_are : LoadsOf plan (own_indexes plan) plan.traffic loads sums
    loads_are = subst (λ (x : List ℕ). LoadsOf plan x plan.traffic loads sums) own (L.of_plan plan plan.traffic N.network W traffic-counted)

    pub report_written : {before middle after : List ℕ} {next end : ℕ} → PairLinesIn net loads before middle next → next ≤ length before
        → Appended middle next (sum_lines sums.total sums.lost) after end → Appended before 0 (load_report plan) after end
    unfolding load_report
    report_written {before} {middle} {after} {next} {end} P room S =
        subst (λ (x : List ℕ). Appended before 0 x after end) same (written_on (P.of_plan plan N.network) S room)
      where
        load_is : (q : Pair) → In q (joined_pairs (graph_of plan)) → load_line (load_at loads) q ≡ load_line (load_of plan (own_indexes plan) plan.traffic) q
        load_is q i =
            let (rises, joined, inside) = pair-joined (graph_of plan) q i
            in let Q : Placed q = record { rises = rises; inside = omega (arith, inside, N.checked.laws.bridges.few) }
            in ap (λ (n : ℕ). load_line (λ r. n) q) (loads_are.each q Q)

        same : flat_map (load_line (load_at loads)) (joined_pairs (graph_of plan)) ++ sum_lines sums.total sums.lost
            ≡ flat_map (load_line (load_of plan (own_indexes plan) plan.traffic)) (joined_pairs (graph_of plan))
            ++ sum_lines (total_load plan (own_indexes plan) plan.traffic) (lost_load plan (own_indexes plan) plan.traffic)
        same = λ i.
            flat_map-same (load_line (load_at loads)) (load_line (load_of plan (own_indexes plan) plan.traffic)) (joined_pairs (graph_of plan)) load_is i
            ++ sum_lines (loads_are.total i) (loads_are.lost i)
