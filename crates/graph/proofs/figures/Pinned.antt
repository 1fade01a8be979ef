-- Small lists and graphs that pin the definitions where the figures do not reach: empty lists, ties, lists of which one ends first,
-- and bridges that may not lie between. One collection, and one proof over it. Assumes nothing.
use Rattle.std.specs.Prelude.{ℕ, ◌+◌, ◌*◌, ◌/◌, ◌≡◌, refl, Bool, true, not, cond, eqb, ltb, get_or}
use mathlib.Core.List.{List, [], ◌∷◌, map, flat_map}
use Rattle.std.proofs.Math.Option.{Option, none, some}
use Rattle.lists.specs.Lists.{rising, selected, any_passes, lowest_by, spliced}
use Rattle.lists.specs.Members.{sum_over, occurrences}
use Rattle.lists.specs.Appending.{each_of}
use Rattle.graph.specs.Order.{insert_upward, sorted, is_lower}
use Rattle.graph.specs.Graph.{Graph, cost_onward, cost, hops, rank}
use Rattle.graph.specs.Chosen.{neighbours, goes_on, onward, paths, chosen}
use Rattle.graph.specs.Lookups.{State, offer, label}

abbrev flag : Bool → ℕ
flag b = cond b 1 0

abbrev flags : List Bool → List (List ℕ)
flags bs = map flag bs ∷ []

abbrev numbers : List ℕ → List (List ℕ)
numbers ns = ns ∷ []

module _ {A : Type 0} where
  abbrev optional : Option A → List A
  optional none = []
  optional (some a) = a ∷ []

-- The graph of a table of hop costs, in which one bridge may not lie between.
abbrev graph_without : ℕ → List (List ℕ) → Graph
graph_without w costs =
    record { size = 4; hop = λ u v. get_or (get_or costs u []) v 0; between = λ u. not (eqb u w) }

-- Bridges 0, 1 and 2 in a ring of costs 1, 2 and 5, bridge 3 alone.
abbrev ring : List (List ℕ)
ring = (0 ∷ 1 ∷ 5 ∷ 0 ∷ []) ∷ (1 ∷ 0 ∷ 2 ∷ 0 ∷ []) ∷ (5 ∷ 2 ∷ 0 ∷ 0 ∷ []) ∷ (0 ∷ 0 ∷ 0 ∷ 0 ∷ []) ∷ []

-- In the first every bridge may lie between, in the second all but bridge 1.
abbrev whole : Graph
whole = graph_without 9 ring

abbrev partly : Graph
partly = graph_without 1 ring

abbrev keys : ℕ → ℕ
keys u = get_or (30 ∷ 10 ∷ 20 ∷ 40 ∷ []) u 0

-- The number that each bridge has in a lookup is its own with another digit in front.
abbrev state : State
state =
    record {
      settled = λ u. true;
      labelled = λ u. true;
      far = λ u. 100 + u;
      steps = λ u. 200 + u;
      next = λ u. u + 1;
      row = λ u. (300 + u) ∷ [];
    }

record Pin : Type 0 where
  asked : List (List ℕ)
  expected : List (List ℕ)

abbrev pin : List (List ℕ) → List (List ℕ) → Pin
pin a e = record { asked = a; expected = e }

abbrev pins : List Pin
pins =
    -- "The `n` numbers from `k` upward."
    pin (numbers (rising 3 0)) (numbers [])
    ∷ pin (numbers (rising 3 2)) (numbers (3 ∷ 4 ∷ []))
    ∷ pin (numbers (each_of (λ k. k ∷ 7 ∷ []) 2)) (numbers (0 ∷ 7 ∷ 1 ∷ 7 ∷ []))
    -- "Those that pass the test, in their order." "Whether one passes the test."
    ∷ pin (numbers (selected (ltb 2) (3 ∷ 1 ∷ 2 ∷ 5 ∷ []))) (numbers (3 ∷ 5 ∷ []))
    ∷ pin (flags (map (any_passes (eqb 3)) ([] ∷ (1 ∷ []) ∷ (3 ∷ 1 ∷ []) ∷ (1 ∷ 3 ∷ []) ∷ []))) (numbers (0 ∷ 0 ∷ 1 ∷ 1 ∷ []))
    -- "The one that the test puts before every other, or none of an empty list. Of two that it puts neither way the earlier is taken":
    -- numbers by their tens.
    ∷ pin (numbers (optional (lowest_by (λ x y. ltb (x / 10) (y / 10)) (21 ∷ 12 ∷ 15 ∷ 11 ∷ 30 ∷ [])))) (numbers (12 ∷ []))
    ∷ pin (numbers (optional (lowest_by ltb []))) (numbers [])
    -- "`part` in the place of what stood from `at` on".
    ∷ pin (numbers (spliced (1 ∷ 2 ∷ 3 ∷ 4 ∷ 5 ∷ 6 ∷ []) 2 (8 ∷ 9 ∷ 7 ∷ []))) (numbers (1 ∷ 2 ∷ 8 ∷ 9 ∷ 7 ∷ 6 ∷ []))
    ∷ pin (numbers (spliced (1 ∷ 2 ∷ []) 1 [])) (numbers (1 ∷ 2 ∷ []))
    ∷ pin (numbers (spliced (1 ∷ 2 ∷ []) 2 (8 ∷ []))) (numbers (1 ∷ 2 ∷ 8 ∷ []))
    -- "The sum of what `f` gives for each of the list." "How often `x` is in the list."
    ∷ pin (numbers (map (sum_over (λ k. k * 2)) ([] ∷ (3 ∷ 4 ∷ []) ∷ []))) (numbers (0 ∷ 14 ∷ []))
    ∷ pin (numbers (map (occurrences 3) ([] ∷ (1 ∷ []) ∷ (3 ∷ 1 ∷ 3 ∷ 5 ∷ []) ∷ []))) (numbers (0 ∷ 0 ∷ 2 ∷ []))
    -- "compared place by place as unsigned numbers". "So that any two lists are ordered, the shorter is the lower."
    ∷ pin (flags (map (is_lower []) ([] ∷ (0 ∷ []) ∷ []))) (numbers (0 ∷ 1 ∷ []))
    ∷ pin
    (flags (map (is_lower (2 ∷ 5 ∷ [])) ([] ∷ (2 ∷ []) ∷ (3 ∷ []) ∷ (1 ∷ 9 ∷ []) ∷ (2 ∷ 5 ∷ []) ∷ (2 ∷ 6 ∷ []) ∷ (2 ∷ 4 ∷ []) ∷ (2 ∷ 5 ∷ 0 ∷ []) ∷ [])))
    (numbers (0 ∷ 0 ∷ 1 ∷ 0 ∷ 0 ∷ 1 ∷ 0 ∷ 1 ∷ []))
    -- "sorted upward".
    ∷ pin (numbers (sorted (3 ∷ 1 ∷ 2 ∷ 3 ∷ 0 ∷ []))) (numbers (0 ∷ 1 ∷ 2 ∷ 3 ∷ 3 ∷ []))
    ∷ pin (numbers (insert_upward 2 [])) (numbers (2 ∷ []))
    -- "a path from a bridge to itself is that bridge, cost 0, hops 0". "Its cost is the sum of its hops' costs." "Its hop count is the
    -- number of bridges in the list less one."
    ∷ pin (numbers (map (cost whole) ([] ∷ (2 ∷ []) ∷ (0 ∷ 1 ∷ 2 ∷ []) ∷ (0 ∷ 2 ∷ []) ∷ []))) (numbers (0 ∷ 0 ∷ 3 ∷ 5 ∷ []))
    ∷ pin (numbers (map hops ([] ∷ (2 ∷ []) ∷ (0 ∷ 1 ∷ 2 ∷ []) ∷ (0 ∷ 2 ∷ []) ∷ []))) (numbers (0 ∷ 0 ∷ 2 ∷ 1 ∷ []))
    -- "the least cost, then the fewest hops, then the lowest masked PATHID".
    ∷ pin (numbers (rank whole keys (0 ∷ 1 ∷ 2 ∷ []))) (numbers (3 ∷ 2 ∷ 10 ∷ 20 ∷ 30 ∷ []))
    -- "The bridges joined to `u`, by number."
    ∷ pin (map (neighbours whole) (rising 0 5)) ((1 ∷ 2 ∷ []) ∷ (0 ∷ 2 ∷ []) ∷ (0 ∷ 1 ∷ []) ∷ [] ∷ [] ∷ [])
    -- "which bridges may lie between the ends of a path".
    ∷ pin (flags (map (goes_on partly 1) ([] ∷ (2 ∷ []) ∷ []))) (numbers (1 ∷ 0 ∷ []))
    ∷ pin (flags (map (goes_on partly 2) ([] ∷ (1 ∷ []) ∷ []))) (numbers (1 ∷ 1 ∷ []))
    -- "The lists of at most `n` bridges that lead on from `u` to `b`", of none, one and two bridges.
    ∷ pin (onward whole 0 0 0) ([] ∷ [])
    ∷ pin (onward whole 0 0 2) []
    ∷ pin (onward whole 1 0 2) ((2 ∷ []) ∷ [])
    ∷ pin (onward whole 2 0 2) ((1 ∷ 2 ∷ []) ∷ (2 ∷ []) ∷ [])
    ∷ pin (onward whole 2 0 0) ([] ∷ (1 ∷ 0 ∷ []) ∷ (2 ∷ 0 ∷ []) ∷ [])
    ∷ pin (onward partly 2 0 2) ((2 ∷ []) ∷ [])
    -- "All paths from `a` to `b` of at most as many bridges as the graph has."
    ∷ pin (paths partly 0 1) ((0 ∷ 1 ∷ []) ∷ (0 ∷ 2 ∷ 0 ∷ 1 ∷ []) ∷ (0 ∷ 2 ∷ 1 ∷ []) ∷ [])
    ∷ pin (paths whole 0 3) []
    -- The chosen path where a bridge may and may not lie between, of a bridge to itself, and to a bridge that none leads to.
    ∷ pin (optional (chosen whole keys 0 2)) ((0 ∷ 1 ∷ 2 ∷ []) ∷ [])
    ∷ pin (optional (chosen partly keys 0 2)) ((0 ∷ 2 ∷ []) ∷ [])
    ∷ pin (optional (chosen partly keys 1 2)) ((1 ∷ 2 ∷ []) ∷ [])
    ∷ pin (optional (chosen partly keys 1 1)) ((1 ∷ []) ∷ [])
    ∷ pin (optional (chosen whole keys 0 3)) []
    -- "What that candidate is compared by, and what the label of `x` is compared by."
    ∷ pin (numbers (offer whole state 0 2)) (numbers (107 ∷ 203 ∷ 302 ∷ []))
    ∷ pin (numbers (label state 0)) (numbers (100 ∷ 200 ∷ 301 ∷ []))
    ∷ []

pinned_hold : map (λ p. p.asked) pins ≡ map (λ p. p.expected) pins
unfolding rising selected any_passes lowest_by occurrences insert_upward sorted is_lower cost_onward neighbours onward paths chosen flat_map
pinned_hold = refl
