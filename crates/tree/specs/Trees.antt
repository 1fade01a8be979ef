-- Neighbour lists that stand for a graph, and the tree of chosen paths to a root: what the label of each bridge says of its path
-- (01, "The chosen path").
-- Assumes nothing.
use Rattle.std.specs.Prelude.{ℕ, ◌+◌, ◌≤◌, ◌<◌, ◌≡◌, List, [], ◌∷◌, eqb, length, get_or}
use Rattle.std.proofs.Math.Option.{Option, none, some}
use Rattle.graph.specs.Graph.{Graph, GraphLaws, KeyLaws, Joined, cost, hops}
use Rattle.graph.specs.Chosen.{chosen}
use Rattle.labels.specs.Labels.{no_cost, Label, label_at}

-- The mark of the bridge `u`: the marks stand behind the starts of 64 bridges and one more. A bridge may lie between the ends of a path
-- where its mark is 0.
abbrev pub mark_at : List ℕ → ℕ → ℕ
mark_at starts u = get_or starts (65 + u) 0

-- The lists stand for the graph: the places from `starts` of a bridge to `starts` of the next hold exactly the bridges joined to it,
-- with the cost of the hop, and the marks say which bridges may lie between. No hop costs more than 16,777,214, the greatest usable
-- metric.
pub record Represents (g : Graph) (n : ℕ) (starts neighbours costs : List ℕ) : Type 0 where
  pub size_is : g.size ≡ n
  pub most : n ≤ 64
  pub laws : GraphLaws g
  pub marked : (u : ℕ) → u < n → g.between u ≡ eqb (mark_at starts u) 0
  pub hop_most : (u v : ℕ) → g.hop u v ≤ 16777214
  pub has_starts : 65 + n ≤ length starts
  pub in_order : (u : ℕ) → u < n → get_or starts u 0 ≤ get_or starts (u + 1) 0
  pub has_neighbours : (u : ℕ) → u < n → get_or starts (u + 1) 0 ≤ length neighbours
  pub has_costs : (u : ℕ) → u < n → get_or starts (u + 1) 0 ≤ length costs
  pub joined : (u i : ℕ) → u < n → get_or starts u 0 ≤ i → i < get_or starts (u + 1) 0 → Joined g u (get_or neighbours i 0)
  pub cost_is : (u i : ℕ) → u < n → get_or starts u 0 ≤ i → i < get_or starts (u + 1) 0 → get_or costs i 0 ≡ g.hop u (get_or neighbours i 0)
  pub listed : (u v : ℕ) → u < n → Joined g u v → (i : ℕ) × (get_or starts u 0 ≤ i) × (i < get_or starts (u + 1) 0) × (get_or neighbours i 0 ≡ v)

-- The list holds the key of each bridge.
pub record Keyed (g : Graph) (key : ℕ → ℕ) (keys : List ℕ) : Type 0 where
  pub laws : KeyLaws g key
  pub has_keys : g.size ≤ length keys
  pub key_is : (u : ℕ) → u < g.size → get_or keys u 0 ≡ key u

-- The lists stand for some graph and key.
pub record Represented (n : ℕ) (starts neighbours costs keys : List ℕ) : Type 0 where
  pub graph : Graph
  pub key : ℕ → ℕ
  pub represents : Represents graph n starts neighbours costs
  pub keyed : Keyed graph key keys

-- The second bridge of a path, and its last but one: the next hop towards the path's end, and the first hop of the way back.
-- Of a path from a bridge to itself both are that bridge.
abbrev pub next_of : List ℕ → ℕ
next_of [] = 0
next_of (u ∷ []) = u
next_of (u ∷ v ∷ t) = v

abbrev pub first_back : List ℕ → ℕ
first_back [] = 0
first_back (u ∷ []) = u
first_back (u ∷ v ∷ []) = u
first_back (u ∷ v ∷ w ∷ t) = first_back (v ∷ w ∷ t)

-- What the label says of the chosen path of its bridge to the root. Where no path exists it has no cost.
abbrev pub SaysPath : Graph → Option (List ℕ) → Label → Type 0
SaysPath g none b = b.cost ≡ no_cost
SaysPath g (some p) b = (b.cost ≡ cost g p) × (b.hops ≡ hops p) × (b.next ≡ next_of p) × (b.first ≡ first_back p)

-- The first part of the labels holds the bridges that have a path, `count` of the first `n`, in an order in which each comes after its
-- next hop: the root, which has no hop to go, first. Where they are fewer than `n`, the place after them holds no bridge.
pub record Ordered (n root : ℕ) (labels : List ℕ) : Type 0 where
  pub count : ℕ
  pub least : 1 ≤ count
  pub most : count ≤ n
  pub root_first : get_or labels 0 0 ≡ root
  pub root_hops : (label_at labels root).hops ≡ 0
  pub inside : (k : ℕ) → k < count → get_or labels k 0 < n
  pub has_path : (k : ℕ) → k < count → (label_at labels (get_or labels k 0)).cost ≡ no_cost → ⊥
  pub has_hops : (k : ℕ) → 0 < k → k < count → 0 < (label_at labels (get_or labels k 0)).hops
  pub after_next : (k : ℕ) → 0 < k → k < count → (j : ℕ) × (j < k) × (get_or labels j 0 ≡ (label_at labels (get_or labels k 0)).next)
  pub listed : (u : ℕ) → u < n → ((label_at labels u).cost ≡ no_cost → ⊥) → (k : ℕ) × (k < count) × (get_or labels k 0 ≡ u)
  pub then_none : count < n → get_or labels count 0 ≡ no_cost

-- The labels are the tree rooted at `root`.
pub record TreeOf (g : Graph) (key : ℕ → ℕ) (root : ℕ) (labels : List ℕ) : Type 0 where
  pub each : (u : ℕ) → u < g.size → SaysPath g (chosen g key u root) (label_at labels u)
  pub ordered : Ordered g.size root labels

-- They are so for every graph and key that the lists stand for.
pub record IsTree (n : ℕ) (starts neighbours costs keys : List ℕ) (root : ℕ) (labels : List ℕ) : Type 0 where
  pub of_graph : (g : Graph) (key : ℕ → ℕ) → Represents g n starts neighbours costs → Keyed g key keys → TreeOf g key root labels
