-- Settling: what the lists have where a bridge can be settled, and how a search begins.
-- Assumes nothing.
use Rattle.std.specs.Prelude.{ℕ, ◌≤◌, ◌<◌, ◌≡◌, List, [], ◌∷◌, length}
use Rattle.ect.specs.Rows.{row_of, Insertable}
use Rattle.labels.specs.Labels.{no_cost, label_at}

-- The bridge `u` can be settled with its label.
pub record Settleable (labels path-ids keys : List ℕ) (u : ℕ) : Type 0 where
  pub u_in : u < 64
  pub next_in : (label_at labels u).next < 64
  pub has_labels : 320 ≤ length labels
  pub has_key : u < length keys
  pub insertable : Insertable path-ids (label_at labels u).next u (label_at labels u).hops

-- None of the first `n` bridges has a label.
pub record Cleared (n : ℕ) (labels labels' : List ℕ) : Type 0 where
  pub same_length : length labels' ≡ length labels
  pub none_waits : (u : ℕ) → u < n → (label_at labels' u).waits ≡ no_cost
  pub none_labelled : (u : ℕ) → u < n → (label_at labels' u).cost ≡ no_cost

-- The root alone is settled, and no other bridge has a label.
pub record Begun (root key : ℕ) (labels path-ids labels' path_ids' : List ℕ) : Type 0 where
  pub same_labels : length labels' ≡ length labels
  pub same_path_ids : length path_ids' ≡ length path-ids
  pub root_label : label_at labels' root ≡ record { waits = no_cost; cost = 0; hops = 0; next = root; first = root }
  pub root_row : row_of path_ids' root 1 ≡ key ∷ []
  pub none_waits : (u : ℕ) → u < 64 → (label_at labels' u).waits ≡ no_cost
  pub others_unlabelled : (u : ℕ) → u < 64 → (u ≡ root → ⊥) → (label_at labels' u).cost ≡ no_cost
