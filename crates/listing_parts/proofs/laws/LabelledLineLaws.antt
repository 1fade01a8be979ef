-- Laws of the path line of one pair: what the labels of a tree answer, by the answer given and the later contents of a list that holds
-- every path. Assumes nothing.
use Rattle.std.specs.Prelude.{ℕ, ◌+◌, ◌≤◌, ◌≡◌, List, ◌⊎◌, length}
use Rattle.std.proofs.Common.{arith, inl, inr, eq-eqb, ne_eqb, le-leb}
use Rattle.std.proofs.Math.Option.{none}
use Rattle.lists.proofs.laws.NumberLaws.{same_or_not}
use Rattle.rule.specs.Outcome.{Outcome, Written, lent_to}
use Rattle.rule.specs.Answers.{CostAndHops}
use Rattle.labels.specs.Labels.{no_cost, label_at}
use Rattle.path.specs.Followed.{followed}
use Rattle.path.proofs.laws.FollowedLaws.{followed-length}
use Rattle.path.specs.Labelled.{labelled_path, Followable}
use Rattle.listing_lines.specs.PathAnswers.{bridges_given, given_path}
use Rattle.listing_lines.proofs.laws.PathLineLaws.{refusal-given, path-given}

-- The list `old` of 64 places was lent, and the answer `o` left the list `now`.
module _ (labels : List ℕ) (u : ℕ) (F : Followable labels u) (old now : List ℕ) (places : length old ≡ 64) (o : Outcome CostAndHops)
    (e : ◌≡◌ {A = Outcome CostAndHops × List ℕ} (o, now) (lent_to old (labelled_path labels u))) where
  abbrev bridges : List ℕ
  bridges = followed labels u ((label_at labels u).hops + 1)

  many : length bridges ≡ (label_at labels u).hops + 1
  many = followed-length labels u ((label_at labels u).hops + 1)

  pub labels-answer : (bridges_given o ≤ length now) × (◌≡◌ {A = Outcome (Written CostAndHops)} (given_path o now) (labelled_path labels u))
  labels-answer = go (same_or_not (label_at labels u).cost no_cost)
    where
      go : ((label_at labels u).cost ≡ no_cost) ⊎ ((label_at labels u).cost ≡ no_cost → ⊥)
          → (bridges_given o ≤ length now) × (◌≡◌ {A = Outcome (Written CostAndHops)} (given_path o now) (labelled_path labels u))
      go (inl d) =
          rw (eq-eqb (label_at labels u).cost no_cost d) (refusal-given old now o 12 none 0 (rw (eq-eqb (label_at labels u).cost no_cost d) at e))
      go (inr d) =
          rw (ne_eqb (label_at labels u).cost no_cost d) (path-given old now o
          (record { values = record { cost = (label_at labels u).cost; hops = (label_at labels u).hops }; words = bridges }) many
          (rw (
            ne_eqb (label_at labels u).cost no_cost d,
            le-leb (length bridges) (length old) (omega (arith, F.few d, many, places)),
          ) at e))
