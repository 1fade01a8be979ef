-- Graphs of bridges, their paths, and the rank by which paths are compared (01, "The chosen path").
-- A graph knows no table, mask or port; a key gives each bridge the number that stands for it in a PATHID.
-- Assumes nothing.
use Rattle.std.specs.Prelude.{ℕ, ◌+◌, ◌-◌, ◌<◌, ◌≡◌, List, [], ◌∷◌, map, Bool, T, length}
use Rattle.graph.specs.Order.{sorted}

-- Bridges are numbered from 0. A hop of cost 0 stands for two bridges that are not joined.
-- `between` says which bridges may lie between the ends of a path: all of them in document 01, with request A1 (02) those that are not
-- overloaded.
pub record Graph : Type 0 where
  pub size : ℕ
  pub hop : ℕ → ℕ → ℕ
  pub between : ℕ → Bool

-- What every graph of an accepted table meets.
pub record GraphLaws (g : Graph) : Type 0 where
  pub symmetric : (u v : ℕ) → g.hop u v ≡ g.hop v u
  pub inside : (u v : ℕ) → 0 < g.hop u v → u < g.size

-- What every key of an accepted table meets: different bridges have different keys.
pub record KeyLaws (g : Graph) (key : ℕ → ℕ) : Type 0 where
  pub distinct : (u v : ℕ) → u < g.size → v < g.size → key u ≡ key v → u ≡ v

abbrev pub Joined : Graph → ℕ → ℕ → Type 0
Joined g u v = 0 < g.hop u v

-- The bridge `v` may have the list `t` after it on a path that came to `v` by a hop: `v` is the last bridge or may lie between.
abbrev pub GoesOn : Graph → ℕ → List ℕ → Type 0
GoesOn g v [] = Unit {0}
GoesOn g v (w ∷ t) = T (g.between v)

-- The list `t` leads on from the bridge `u` to `b`, each bridge joined to the next.
abbrev pub Onward : Graph → ℕ → List ℕ → ℕ → Type 0
Onward g u [] b = u ≡ b
Onward g u (v ∷ t) b = Joined g u v × GoesOn g v t × Onward g v t b

-- "A path is a list of bridges, each joined to the next": here from `a` to `b`.
-- "a path from a bridge to itself is that bridge".
abbrev pub IsPath : Graph → ℕ → ℕ → List ℕ → Type 0
IsPath g a b [] = ⊥
IsPath g a b (u ∷ t) = (u ≡ a) × Onward g u t b

-- "Its cost is the sum of its hops' costs": from the bridge `u` through the list after it.
unfoldable pub cost_onward : Graph → ℕ → List ℕ → ℕ
cost_onward g u [] = 0
cost_onward g u (v ∷ t) = g.hop u v + cost_onward g v t

abbrev pub cost : Graph → List ℕ → ℕ
cost g [] = 0
cost g (u ∷ t) = cost_onward g u t

-- "Its hop count is the number of bridges in the list less one."
abbrev pub hops : List ℕ → ℕ
hops p = length p - 1

-- "the list of the masked identifiers of all bridges on the path, both ends included, sorted upward".
abbrev pub path_id : (ℕ → ℕ) → List ℕ → List ℕ
path_id key p = sorted (map key p)

-- "the least cost, then the fewest hops, then the lowest masked PATHID": the lower of two paths has the lower rank.
-- Cost and hop count stand at two places of a list and are never added together.
abbrev pub rank : Graph → (ℕ → ℕ) → List ℕ → List ℕ
rank g key p = cost g p ∷ hops p ∷ path_id key p
