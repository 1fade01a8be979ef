-- The load lines of a network's joined pairs (02, A5), by the ports of hops and the loads in a list. Assumes nothing.
use Rattle.std.specs.Prelude.{ℕ, ◌+◌, ◌≤◌, cond, not, ◌&&◌, eqb, ltb, get_or}
use mathlib.Core.List.{List, [], ◌∷◌, flat_map}
use Rattle.graph.specs.Pairs.{pairs_of, joined_pairs}
use Rattle.rule.specs.Plan.{Plan}
use Rattle.rule.specs.Links.{graph_of}
use Rattle.network.specs.Networks.{NetworkOf}
use Rattle.loads.specs.Places.{load_at, hop_place}
use Rattle.text.specs.Text.{line, WrittenAt}
use Rattle.listing_lines.specs.Listing.{load_word, load_line}

-- The line of the bridges `u` and `v`, where `u` is the lower and `hops` has a port for `v`; otherwise nothing.
unfoldable pub pair_text : List ℕ → List ℕ → ℕ → ℕ → List ℕ
pair_text hops loads u v = cond (ltb u v && not (eqb (get_or hops v 0) 0)) (line load_word (u ∷ v ∷ get_or loads (hop_place u v) 0 ∷ [])) []

-- The lines of the pairs whose lower bridge is `u` are written, for every plan that the network is that of.
pub record LinesFrom (net loads : List ℕ) (u at : ℕ) (before after : List ℕ) (next : ℕ) : Type 0 where
  pub of_plan : (p : Plan) → NetworkOf p net → WrittenAt at before after (flat_map (load_line (load_at loads)) (pairs_of (graph_of p) u)) next
  pub few : next ≤ at + 2432

-- Those of all joined pairs, from the front on.
pub record PairLinesIn (net loads before after : List ℕ) (next : ℕ) : Type 0 where
  pub of_plan : (p : Plan) → NetworkOf p net → WrittenAt 0 before after (flat_map (load_line (load_at loads)) (joined_pairs (graph_of p))) next
  pub few : next ≤ 155648
