-- Figures of document 01 and of IEEE 802.1aq on graphs alone, with the ends of the addresses as keys: what a misreading would miss.
-- They stand here so that an edit of this crate's definitions meets them; the proved figures on tables are those of the crate `rule`.
-- Assumes nothing.
use Rattle.std.specs.Prelude.{ℕ, ◌≡◌, refl, true, cond, ◌||◌, ◌&&◌, eqb, get_or}
use mathlib.Core.List.{List, [], ◌∷◌, map, flat_map}
use Rattle.std.proofs.Math.Option.{Option, none, some}
use Rattle.lists.specs.Lists.{rising, selected, lowest_by}
use Rattle.graph.specs.Order.{insert_upward, sorted, is_lower}
use Rattle.graph.specs.Graph.{Graph, cost_onward}
use Rattle.graph.specs.Chosen.{neighbours, onward, paths, chosen}

-- A link of a figure: its two bridges and its cost.
pub record Edge : Type 0 where
  pub one : ℕ
  pub other : ℕ
  pub cost : ℕ

abbrev hop_of : List Edge → ℕ → ℕ → ℕ
hop_of [] u v = 0
hop_of (e ∷ es) u v =
    cond ((eqb u e.one && eqb v e.other) || (eqb v e.one && eqb u e.other)) e.cost (hop_of es u v)

abbrev graph_of : ℕ → List Edge → Graph
graph_of n es = record { size = n; hop = hop_of es; between = λ u. true }

-- A figure: a graph, the keys of its bridges, two bridges, and the path that document 01 gives.
pub record Figure : Type 0 where
  pub graph : Graph
  pub keys : List ℕ
  pub from : ℕ
  pub to : ℕ
  pub expected : Option (List ℕ)

abbrev computed : Figure → Option (List ℕ)
computed f = chosen f.graph (λ u. get_or f.keys u 0) f.from f.to

abbrev edge : ℕ → ℕ → ℕ → Edge
edge u v c = record { one = u; other = v; cost = c }

abbrev pub figures : List Figure
figures =
    -- "Address ends 1-5-2-9 and 1-3-4-9, all hops equal, index 1: the first."
    record {
      graph = graph_of 6 (edge 0 1 10 ∷ edge 1 2 10 ∷ edge 2 5 10 ∷ edge 0 3 10 ∷ edge 3 4 10 ∷ edge 4 5 10 ∷ []);
      keys = 1 ∷ 5 ∷ 2 ∷ 3 ∷ 4 ∷ 9 ∷ [];
      from = 0;
      to = 5;
      expected = some (0 ∷ 1 ∷ 2 ∷ 5 ∷ []);
    }
    -- "Direct link 20 against 10 and 10: direct."
    ∷ record {
      graph = graph_of 3 (edge 0 2 20 ∷ edge 0 1 10 ∷ edge 1 2 10 ∷ []);
      keys = 1 ∷ 2 ∷ 3 ∷ [];
      from = 0;
      to = 2;
      expected = some (0 ∷ 2 ∷ []);
    }
    -- "Against 6, 6 and 6: the three hops."
    ∷ record {
      graph = graph_of 4 (edge 0 3 20 ∷ edge 0 1 6 ∷ edge 1 2 6 ∷ edge 2 3 6 ∷ []);
      keys = 1 ∷ 2 ∷ 3 ∷ 4 ∷ [];
      from = 0;
      to = 3;
      expected = some (0 ∷ 1 ∷ 2 ∷ 3 ∷ []);
    }
    -- IEEE 802.1aq, 28.5: {9, 15, 22} is below {7, 8, 9, 10, 22}, both of cost 4. Fewer bridges count before lower identifiers.
    ∷ record {
      graph = graph_of 6 (edge 0 1 2 ∷ edge 1 2 2 ∷ edge 0 3 1 ∷ edge 3 4 1 ∷ edge 4 5 1 ∷ edge 5 2 1 ∷ []);
      keys = 9 ∷ 15 ∷ 22 ∷ 7 ∷ 8 ∷ 10 ∷ [];
      from = 0;
      to = 2;
      expected = some (0 ∷ 1 ∷ 2 ∷ []);
    }
    -- IEEE 802.1aq, 28.5: {9, 15, 22, 99} is below {9, 15, 22, 100}.
    ∷ record {
      graph = graph_of 5 (edge 0 1 1 ∷ edge 1 4 1 ∷ edge 4 2 1 ∷ edge 1 3 1 ∷ edge 3 2 1 ∷ []);
      keys = 9 ∷ 15 ∷ 22 ∷ 99 ∷ 100 ∷ [];
      from = 0;
      to = 2;
      expected = some (0 ∷ 1 ∷ 3 ∷ 2 ∷ []);
    }
    -- Bridges that no chain joins.
    ∷ record { graph = graph_of 3 (edge 0 1 10 ∷ []); keys = 1 ∷ 2 ∷ 3 ∷ []; from = 0; to = 2; expected = none }
    ∷ []

figures_hold : map computed figures ≡ map (λ f. f.expected) figures
unfolding chosen paths onward neighbours cost_onward rising selected lowest_by insert_upward sorted is_lower flat_map
figures_hold = refl
