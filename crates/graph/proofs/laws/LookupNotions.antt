-- How a search kept in lookups starts and advances: what its laws speak of. Assumes nothing.
use Rattle.std.specs.Prelude.{ℕ, suc, ◌+◌, ◌<◌, ◌≡◌, [], ◌∷◌, ◌⊎◌, T}
use Rattle.graph.specs.Order.{Lower, insert_upward}
use Rattle.graph.specs.Graph.{Graph, Joined}
use Rattle.graph.specs.Lookups.{State, Offers, offer, label}

-- How such a search starts: the root alone is settled, and the bridges joined to it are labelled through it.
pub record Starts (g : Graph) (key : ℕ → ℕ) (r : ℕ) (st : State) : Type 0 where
  pub inside : r < g.size
  pub root : T (st.settled r)
  pub alone : (v : ℕ) → T (st.settled v) → v ≡ r
  pub far_root : st.far r ≡ 0
  pub steps_root : st.steps r ≡ 0
  pub row_root : st.row r ≡ key r ∷ []
  pub beside : (x : ℕ) → x < g.size → (x ≡ r → ⊥) → Joined g x r → T (st.labelled x)
  pub labelled_joined : (x : ℕ) → x < g.size → (x ≡ r → ⊥) → T (st.labelled x) → Joined g x r
  pub labelled_far : (x : ℕ) → x < g.size → (x ≡ r → ⊥) → T (st.labelled x) → st.far x ≡ g.hop x r
  pub labelled_steps : (x : ℕ) → x < g.size → (x ≡ r → ⊥) → T (st.labelled x) → st.steps x ≡ 1
  pub labelled_next : (x : ℕ) → x < g.size → (x ≡ r → ⊥) → T (st.labelled x) → st.next x ≡ r

-- The label of `x` stays as it was: `u` offers nothing, or nothing lower.
pub record Stays (g : Graph) (r u : ℕ) (st st' : State) (x : ℕ) : Type 0 where
  pub same_labelled : st'.labelled x ≡ st.labelled x
  pub same_far : st'.far x ≡ st.far x
  pub same_steps : st'.steps x ≡ st.steps x
  pub same_next : st'.next x ≡ st.next x
  pub enough : Offers g r st' x u → T (st.labelled x) × (Lower (offer g st' x u) (label st x) → ⊥)

-- The label of `x` becomes the candidate through `u`: it had none, or a higher one.
pub record Takes (g : Graph) (r u : ℕ) (st st' : State) (x : ℕ) : Type 0 where
  pub offers : Offers g r st' x u
  pub now_labelled : T (st'.labelled x)
  pub new_far : st'.far x ≡ g.hop x u + st.far u
  pub new_steps : st'.steps x ≡ suc (st.steps u)
  pub new_next : st'.next x ≡ u
  pub lower_now : T (st.labelled x) → Lower (offer g st' x u) (label st x)

-- One step: the bridge `u` is settled with its label, its row is its next hop's with its own key inserted, and the labels are relaxed.
pub record Advances (g : Graph) (key : ℕ → ℕ) (r u : ℕ) (st st' : State) : Type 0 where
  pub done : T (st'.settled u)
  pub still : (v : ℕ) → T (st.settled v) → T (st'.settled v)
  pub only : (v : ℕ) → T (st'.settled v) → T (st.settled v) ⊎ (v ≡ u)
  pub far_kept : (v : ℕ) → T (st'.settled v) → st'.far v ≡ st.far v
  pub steps_kept : (v : ℕ) → T (st'.settled v) → st'.steps v ≡ st.steps v
  pub next_kept : (v : ℕ) → T (st'.settled v) → st'.next v ≡ st.next v
  pub row_kept : (v : ℕ) → T (st.settled v) → st'.row v ≡ st.row v
  pub row_new : st'.row u ≡ insert_upward (key u) (st.row (st.next u))
  pub relaxed : (x : ℕ) → x < g.size → (T (st'.settled x) → ⊥) → Stays g r u st st' x ⊎ Takes g r u st st' x
