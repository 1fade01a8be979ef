-- The labels of a search, in one list of five parts with 64 places each, one place for each bridge (01, "The table": up to 64): the
-- cost at which the bridge waits to be settled, its cost, its hops, its next hop towards the root, its first hop from the root.
-- Assumes nothing.
use Rattle.std.specs.Prelude.{ℕ, ◌+◌, List, ◌∷◌, cond, ◌&&◌, eqb, ltb, leb, get_or, set}
use Rattle.lists.specs.Lists.{spliced}
use Rattle.graph.specs.Order.{is_lower, insert_upward}
use Rattle.graph.specs.Lookups.{State}
use Rattle.measures.specs.Measures.{no_path_cost}
use Rattle.ect.specs.Rows.{row_place, row_of}

-- What stands for no cost: a bridge that has no label, or one that no longer waits.
abbrev pub no_cost : ℕ
no_cost = no_path_cost

pub record Label : Type 0 where
  pub waits : ℕ
  pub cost : ℕ
  pub hops : ℕ
  pub next : ℕ
  pub first : ℕ

abbrev pub label_at : List ℕ → ℕ → Label
label_at labels u = record {
  waits = get_or labels u 0;
  cost = get_or labels (64 + u) 0;
  hops = get_or labels (128 + u) 0;
  next = get_or labels (192 + u) 0;
  first = get_or labels (256 + u) 0;
}

-- What a label is compared by, and what the way through the bridge `via` is compared by, with its cost and hops.
abbrev pub label_rank : List ℕ → Label → List ℕ
label_rank path-ids b = b.cost ∷ b.hops ∷ row_of path-ids b.next b.hops

abbrev pub offer_rank : List ℕ → ℕ → ℕ → ℕ → List ℕ
offer_rank path-ids via cost hops = cost ∷ hops ∷ row_of path-ids via hops

-- The way through the bridge `via` is the label of the bridge `v` now.
abbrev pub taken : List ℕ → ℕ → ℕ → ℕ → ℕ → List ℕ
taken labels via v cost hops = set (set (set (set labels v cost) (64 + v) cost) (128 + v) hops) (192 + v) via

-- The bridge `v` was offered the way through the bridge `via`.
abbrev pub relaxed : List ℕ → List ℕ → ℕ → ℕ → ℕ → ℕ → List ℕ
relaxed labels path-ids via v cost hops =
    cond (is_lower (offer_rank path-ids via cost hops) (label_rank path-ids (label_at labels v))) (taken labels via v cost hops) labels

-- The bridge `u` was settled.
abbrev pub settled_labels : List ℕ → ℕ → ℕ → List ℕ
settled_labels labels root u =
    set (set labels (256 + u) (cond (eqb (label_at labels u).next root) u (label_at labels (label_at labels u).next).first)) u no_cost

abbrev pub settled_path_ids : List ℕ → List ℕ → ℕ → ℕ → List ℕ
settled_path_ids labels path-ids u key = spliced path-ids (row_place u) (insert_upward key (row_of path-ids (label_at labels u).next (label_at labels u).hops))

-- What the first `n` labels and masked PATHIDs stand for. A settled bridge has a cost and does not wait.
abbrev pub state_of : ℕ → List ℕ → List ℕ → State
state_of n labels path-ids = record {
  settled = λ u. ltb u n && (ltb (label_at labels u).cost no_cost && leb no_cost (label_at labels u).waits);
  labelled = λ u. ltb (label_at labels u).cost no_cost;
  far = λ u. (label_at labels u).cost;
  steps = λ u. (label_at labels u).hops;
  next = λ u. (label_at labels u).next;
  row = λ u. row_of path-ids u ((label_at labels u).hops + 1);
}
