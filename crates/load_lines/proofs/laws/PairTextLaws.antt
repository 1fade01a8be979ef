-- The lines written by the ports of hops are those of the joined pairs (02, A5). Assumes nothing.
use Rattle.std.specs.Prelude.{ℕ, ◌+◌, ◌*◌, ◌≤◌, ◌<◌, ◌≡◌, refl, Bool, ◌&&◌, eqb, length}
use native.Mathlib.Omega.{arith}
use Rattle.std.proofs.Math.Path.{sym, ap, subst}
use Rattle.std.proofs.Common.{◌∙◌}
use mathlib.Core.List.{List, [], ◌∷◌, flat_map}
use Rattle.std.proofs.Math.Option.{Option, none, some, map}
use Rattle.std.proofs.Math.Bool.{true, false, cond, not}
use Rattle.std.proofs.Math.Dec.{ltb}
use Rattle.std.proofs.Math.ListN.{get_or}
use borrow.Author.Tests.{eq-eqb, ne_eqb, lt-ltb, le-ltb, ltb-true}
use Rattle.lists.specs.Lists.{rising, selected}
use Rattle.lists.specs.Appending.{Appended, each_of}
use Rattle.lists.proofs.laws.AppendingLaws.{appended_nothing, AppendingFew, few-starts, few-room, few_goes_on, few-ends}
use Rattle.lists.proofs.laws.SelectedLaws.{rising-in}
use Rattle.lists.proofs.laws.GivenLaws.{flat_map-map, flat_map-selected, flat_map-same, flat_map-flat_map}
use Rattle.graph.specs.Pairs.{pairs_of, joined_pairs}
use Rattle.graph.specs.Chosen.{neighbours}
use Rattle.rule.specs.Plan.{Plan}
use Rattle.rule.specs.Links.{Link, hop_link, graph_of, cost_of}
use Rattle.rule.proofs.laws.LinkLaws.{hop-joined}
use Rattle.network.specs.Layout.{bridges_in}
use Rattle.network.specs.Networks.{NetworkOf, IsNetwork}
use Rattle.egress.specs.Hops.{HopPorts}
use Rattle.egress.specs.Leaving.{number_of}
use Rattle.egress.proofs.laws.PlanPortLaws.{plan-hops, port-there}
use Rattle.loads.specs.Places.{load_at, hop_place}
use Rattle.text.specs.Text.{line}
use Rattle.listing_lines.specs.Listing.{load_word, load_line}
use Rattle.load_lines.specs.PairTexts.{pair_text, LinesFrom, PairLinesIn}

-- The text of two bridges: nothing, or their line.
module _ (hops loads : List ℕ) (u v : ℕ) where
  pub not_lower : v ≤ u → (lent : List ℕ) (at : ℕ) → Appended lent at (pair_text hops loads u v) lent at
  unfolding pair_text
  not_lower l lent at = rw (le-ltb u v l) (appended_nothing lent at)

  pub no_port_lem : get_or hops v 0 ≡ 0 → (lent : List ℕ) (at : ℕ) → Appended lent at (pair_text hops loads u v) lent at
  unfolding pair_text
  no_port_lem e lent at = go (ltb u v)
    where
      go : (b : Bool) → Appended lent at (cond (b && not (eqb (get_or hops v 0) 0)) (line load_word (u ∷ v ∷ get_or loads (hop_place u v) 0 ∷ [])) []) lent at
      go true = rw (eq-eqb (get_or hops v 0) 0 e) (appended_nothing lent at)
      go false = appended_nothing lent at

  pub has_line : u < v → (get_or hops v 0 ≡ 0 → ⊥) → (place : ℕ) → place ≡ hop_place u v → {lent after : List ℕ} {at next : ℕ}
      → Appended lent at (line load_word (u ∷ v ∷ get_or loads place 0 ∷ [])) after next → Appended lent at (pair_text hops loads u v) after next
  unfolding pair_text
  has_line l d place e {lent} {after} {at} {next} A =
      rw (lt-ltb u v l, ne_eqb (get_or hops v 0) 0 d)
      (subst (λ (i : ℕ). Appended lent at (line load_word (u ∷ v ∷ get_or loads i 0 ∷ [])) after next) e A)

-- A hop has a port exactly where the two bridges are joined.
module _ {p : Plan} {net : List ℕ} (N : NetworkOf p net) (u : ℕ) (known : u < bridges_in net) {hops : List ℕ} (H : HopPorts net u hops) where
  joined_by_port : (v : ℕ) → v < bridges_in net → not (eqb (get_or hops v 0) 0) ≡ ltb 0 ((graph_of p).hop u v)
  joined_by_port v l = go (hop_link p.half_links u v) refl ((plan-hops N u known H).each v l)
    where
      go : (o : Option Link) → hop_link p.half_links u v ≡ o → get_or hops v 0 ≡ number_of (map (λ l. l.here.port) o)
          → not (eqb (get_or hops v 0) 0) ≡ ltb 0 (cost_of o)
      go none e f = rw (eq-eqb (get_or hops v 0) 0 f) refl
      go (some k) e f =
          let (same, positive) = port-there p N.laws u v k e
          in let costs : 0 < cost_of (some k) = subst (λ (o : Option Link). 0 < cost_of o) e (hop-joined p N.laws u v k e)
          in rw (ne_eqb (get_or hops v 0) 0 (λ z. omega (arith, f, positive)), lt-ltb 0 (cost_of (some k)) costs) refl

  module _ (loads : List ℕ) where
    -- The line of a pair, by the test whether the two are joined.
    line_of : ℕ → List ℕ
    line_of v = load_line (load_at loads) (record { lower = u; higher = v })

    same_text : (v : ℕ) → v < bridges_in net → pair_text hops loads u v ≡ cond (ltb 0 ((graph_of p).hop u v)) (cond (ltb u v) (line_of v) []) []
    unfolding pair_text line_of
    same_text v l = rw (joined_by_port v l) (go (ltb u v) (ltb-true u v) (ltb 0 ((graph_of p).hop u v)))
      where
        place : u < v → hop_place u v ≡ 64 * u + v
        place h = omega arith

        go : (b : Bool) → (b ≡ true → u < v) → (j : Bool)
            → cond (b && j) (line load_word (u ∷ v ∷ get_or loads (hop_place u v) 0 ∷ [])) []
            ≡ cond j (cond b (line load_word (u ∷ v ∷ get_or loads (64 * u + v) 0 ∷ [])) []) []
        go true f true = ap (λ (i : ℕ). line load_word (u ∷ v ∷ get_or loads i 0 ∷ [])) (place (f refl))
        go true f false = refl
        go false f true = refl
        go false f false = refl

    lines_of : each_of (pair_text hops loads u) (bridges_in net) ≡ flat_map (load_line (load_at loads)) (pairs_of (graph_of p) u)
    unfolding line_of neighbours
    lines_of =
        flat_map-same (pair_text hops loads u) (λ v. cond (ltb 0 ((graph_of p).hop u v)) (cond (ltb u v) (line_of v) []) []) (rising 0 (bridges_in net))
        (λ v i. same_text v (omega (arith, (rising-in 0 (bridges_in net) v i).1)))
        ∙ ap (λ (n : ℕ). flat_map (λ v. cond (ltb 0 ((graph_of p).hop u v)) (cond (ltb u v) (line_of v) []) []) (rising 0 n)) (sym N.represents.size_is)
        ∙ sym (flat_map-selected (λ v. cond (ltb u v) (line_of v) []) (λ v. ltb 0 ((graph_of p).hop u v)) (rising 0 (graph_of p).size))
        ∙ sym (flat_map-selected line_of (λ v. ltb u v) (selected (λ v. ltb 0 ((graph_of p).hop u v)) (rising 0 (graph_of p).size)))
        ∙ sym (flat_map-map (load_line (load_at loads)) (λ v. record { lower = u; higher = v }) (selected (λ v. ltb u v) (selected (λ v. ltb 0 ((graph_of p).hop u v)) (rising 0 (graph_of p).size))))

-- The lines of one bridge.
pub lines_from : {net : List ℕ} {u : ℕ} → IsNetwork net → u < bridges_in net → {hops : List ℕ} → HopPorts net u hops → {loads before after : List ℕ} {at next : ℕ}
    → {n : ℕ} → n ≡ bridges_in net → Appended before at (each_of (pair_text hops loads u) n) after next → next ≤ at + 38 * n → LinesFrom net loads u at before after next
lines_from {net} {u} I known {hops} H {loads} {before} {after} {at} {next} {n} e A few = record {
  of_plan = λ p N. subst (λ (t : List ℕ). Appended before at t after next) (ap (each_of (pair_text hops loads u)) e ∙ lines_of N u known H loads) A;
  few = omega (arith, I.network.represents.most);
}

-- The lines of the first `u` bridges are written.
pub record PairLines (net loads : List ℕ) (u : ℕ) (before after : List ℕ) (next : ℕ) : Type 0 where
  pub each : (p : Plan) → NetworkOf p net → AppendingFew (λ w. flat_map (load_line (load_at loads)) (pairs_of (graph_of p) w)) 2432 (bridges_in net) before 0 u after next

module _ {net loads : List ℕ} (I : IsNetwork net) where
  pub pair_lines_start : (before : List ℕ) → PairLines net loads 0 before before 0
  pair_lines_start before = record { each = λ p N. few-starts (λ w. flat_map (load_line (load_at loads)) (pairs_of (graph_of p) w)) 2432 (bridges_in net) before 0 }

  module _ {u : ℕ} {before after : List ℕ} {next : ℕ} (P : PairLines net loads u before after next) where
    here : AppendingFew (λ w. flat_map (load_line (load_at loads)) (pairs_of (graph_of I.plan) w)) 2432 (bridges_in net) before 0 u after next
    here = P.each I.plan I.network

    pub pair_lines_length : length after ≡ length before
    pair_lines_length = here.same_length

    module _ (room : 155648 ≤ length before) where
      enough : 0 + 2432 * bridges_in net ≤ length before
      enough = omega (arith, I.network.represents.most)

      pub pair_lines_room : u < bridges_in net → next + 2432 ≤ length after
      pair_lines_room l = few-room here enough l

      pub pair_lines_on : u < bridges_in net → {after' : List ℕ} {next' : ℕ} → LinesFrom net loads u next after after' next'
          → PairLines net loads (u + 1) before after' next'
      pair_lines_on l F = record { each = λ p N. few_goes_on (P.each p N) enough l (F.of_plan p N) F.few }

      pub pair_lines_end : bridges_in net ≤ u → PairLinesIn net loads before after next
      unfolding joined_pairs
      pair_lines_end l = record {
        of_plan = λ p N. subst (λ (t : List ℕ). Appended before 0 t after next) (all p N) (few-ends (P.each p N) enough l).0;
        few = omega (arith, (few-ends here enough l).1, I.network.represents.most);
      }
        where
          all : (p : Plan) → NetworkOf p net
              → each_of (λ w. flat_map (load_line (load_at loads)) (pairs_of (graph_of p) w)) (bridges_in net) ≡ flat_map (load_line (load_at loads)) (joined_pairs (graph_of p))
          all p N =
              ap (λ (n : ℕ). flat_map (λ w. flat_map (load_line (load_at loads)) (pairs_of (graph_of p) w)) (rising 0 n)) (sym N.represents.size_is)
              ∙ sym (flat_map-flat_map (load_line (load_at loads)) (pairs_of (graph_of p)) (rising 0 (graph_of p).size))
