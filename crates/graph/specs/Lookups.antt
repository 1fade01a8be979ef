-- A search kept in lookups: for each bridge some numbers and one sorted row, as arrays hold them. What it keeps is said in these alone.
-- Assumes nothing.
use Rattle.std.specs.Prelude.{ℕ, suc, ◌+◌, ◌≤◌, ◌<◌, ◌≡◌, List, ◌∷◌, ◌⊎◌, Bool, T}
use Rattle.graph.specs.Order.{Lower}
use Rattle.graph.specs.Graph.{Graph, Joined, cost, hops, path_id}
use Rattle.graph.specs.Chosen.{Chosen}

-- For a settled bridge `far`, `steps`, `next` and `row` are the cost, the hop count, the second bridge and the PATHID of its path
-- to the root. For a labelled bridge that is not settled `far`, `steps` and `next` are those of its lowest candidate.
pub record State : Type 0 where
  pub settled : ℕ → Bool
  pub labelled : ℕ → Bool
  pub far : ℕ → ℕ
  pub steps : ℕ → ℕ
  pub next : ℕ → ℕ
  pub row : ℕ → List ℕ

-- The bridge `x` has a candidate through `w`: a settled neighbour that is the root or may lie between.
pub record Offers (g : Graph) (r : ℕ) (st : State) (x w : ℕ) : Type 0 where
  pub done : T (st.settled w)
  pub joined : Joined g x w
  pub passes : (w ≡ r) ⊎ T (g.between w)

-- What that candidate is compared by, and what the label of `x` is compared by.
abbrev pub offer : Graph → State → ℕ → ℕ → List ℕ
offer g st x w = (g.hop x w + st.far w) ∷ suc (st.steps w) ∷ st.row w

abbrev pub label : State → ℕ → List ℕ
label st x = st.far x ∷ st.steps x ∷ st.row (st.next x)

-- The lookups of a settled bridge say its path.
pub record Says (g : Graph) (key : ℕ → ℕ) (st : State) (v : ℕ) (p : List ℕ) : Type 0 where
  pub far_is : st.far v ≡ cost g p
  pub steps_is : st.steps v ≡ hops p
  pub row_is : st.row v ≡ path_id key p
  pub next_is : (w : ℕ) (t : List ℕ) → p ≡ v ∷ w ∷ t → st.next v ≡ w

-- What a search for the tree rooted at `r` keeps.
pub record Kept (g : Graph) (key : ℕ → ℕ) (r : ℕ) (st : State) : Type 0 where
  pub inside : r < g.size
  pub root : T (st.settled r)
  pub found : (v : ℕ) → v < g.size → T (st.settled v) → (p : List ℕ) × Chosen g key v r p × Says g key st v p
  pub offered : (x : ℕ) → x < g.size → (T (st.settled x) → ⊥) → T (st.labelled x) → Offers g r st x (st.next x)
  pub far_through : (x : ℕ) → x < g.size → (T (st.settled x) → ⊥) → T (st.labelled x)
      → st.far x ≡ g.hop x (st.next x) + st.far (st.next x)
  pub steps_through : (x : ℕ) → x < g.size → (T (st.settled x) → ⊥) → T (st.labelled x) → st.steps x ≡ suc (st.steps (st.next x))
  pub lowest : (x w : ℕ) → x < g.size → w < g.size → (T (st.settled x) → ⊥) → T (st.labelled x) → Offers g r st x w
      → Lower (offer g st x w) (label st x) → ⊥
  pub reached : (x w : ℕ) → x < g.size → w < g.size → (T (st.settled x) → ⊥) → Offers g r st x w → T (st.labelled x)
  -- No settled bridge is farther than an open one, so a test by cost alone keeps every settled bridge as it is.
  pub ordered : (v x : ℕ) → v < g.size → x < g.size → T (st.settled v) → (T (st.settled x) → ⊥) → T (st.labelled x) → st.far v ≤ st.far x
