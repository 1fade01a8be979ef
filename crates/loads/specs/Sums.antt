-- What a record of traffic adds to the loads, to total and to lost (02, A5), by the labels of a tree. Assumes nothing.
use Rattle.std.specs.Prelude.{ℕ, ◌+◌, ◌*◌, ◌≤◌, ◌≡◌, List, cond, not, eqb}
use Rattle.std.proofs.Math.Option.{Option, none, some}
use Rattle.lists.specs.Members.{EveryTwo}
use Rattle.graph.specs.Pairs.{Pair}
use Rattle.rule.specs.Loads.{has_path, hops_of, path_takes}
use Rattle.labels.specs.Labels.{no_cost, label_at}
use Rattle.path.specs.Followed.{followed, Inside}
use Rattle.path.specs.Labelled.{Followable}
use Rattle.loads.specs.Places.{Placed, load_at}
use Rattle.loads.specs.declared.along.Sums.{Sums}

-- The bridges that next hops lead to from the bridge `u`, `count` in all, have places, and none comes twice.
pub record PassesOnce (labels : List ℕ) (u count : ℕ) : Type 0 where
  pub inside : Inside labels u count
  pub once : EveryTwo (λ x y. x ≡ y → ⊥) (followed labels u count)

-- The same of the path that the labels have for the bridge `u`, where they have one.
pub record Passable (labels : List ℕ) (u : ℕ) : Type 0 where
  pub followable : Followable labels u
  pub once : ((label_at labels u).cost ≡ no_cost → ⊥) → EveryTwo (λ x y. x ≡ y → ⊥) (followed labels u ((label_at labels u).hops + 1))

-- The path that the labels have for the bridge `u`, or none.
abbrev pub labelled_option : List ℕ → ℕ → Option (List ℕ)
labelled_option labels u = cond (eqb (label_at labels u).cost no_cost) none (some (followed labels u ((label_at labels u).hops + 1)))

-- A record of traffic whose path is `path` is added: its amount to the pairs whose hop the path takes, and as often as it has hops to
-- total; or, where there is no path, to lost.
pub record RecordAdded (path : Option (List ℕ)) (amount : ℕ) (before after : List ℕ) (sums : Sums) : Type 0 where
  pub each : (q : Pair) → Placed q → load_at after q ≡ load_at before q + cond (path_takes q path) amount 0
  pub total : sums.total ≡ hops_of path * amount
  pub few : sums.total ≤ 63 * 65535
  pub lost : sums.lost ≡ cond (not (has_path path)) amount 0
