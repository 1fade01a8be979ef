-- What the labels of a tree answer to the path call (01, "Calls"). Assumes nothing.
use Rattle.std.specs.Prelude.{ℕ, ◌+◌, ◌<◌, ◌≡◌, List, cond, eqb}
use Rattle.rule.specs.Outcome.{Outcome, answered, refused_as, Written}
use Rattle.rule.specs.Answers.{CostAndHops}
use Rattle.labels.specs.Labels.{no_cost, label_at}
use Rattle.path.specs.Followed.{followed, Inside}

-- The path from the bridge `u` to the root: its label's cost and hops, and the bridges that next hops lead to. "12. No path exists."
abbrev pub labelled_path : List ℕ → ℕ → Outcome (Written CostAndHops)
labelled_path labels u =
    cond (eqb (label_at labels u).cost no_cost)
    (refused_as 12)
    (answered (record {
      values = record { cost = (label_at labels u).cost; hops = (label_at labels u).hops };
      words = followed labels u ((label_at labels u).hops + 1);
    }))

-- Where the bridge `u` has a path its next hops stay among the bridges that labels have places for.
pub record Followable (labels : List ℕ) (u : ℕ) : Type 0 where
  pub place : u < 64
  pub few : ((label_at labels u).cost ≡ no_cost → ⊥) → (label_at labels u).hops < 64
  pub inside : ((label_at labels u).cost ≡ no_cost → ⊥) → Inside labels u ((label_at labels u).hops + 1)
