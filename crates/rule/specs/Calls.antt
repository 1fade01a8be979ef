-- The outcomes of check, path, tree and entries, with the later contents of the lent lists (01, "Calls").
-- Every call that takes a table begins with the verdict on it. Assumes nothing.
use Rattle.std.specs.Prelude.{ℕ, List, [], ◌∷◌, map, Bool, true, false, cond, ◌&&◌, leb, length}
use Rattle.std.proofs.Math.Option.{Option, none, some}
use Rattle.lists.specs.Lists.{rising}
use Rattle.graph.specs.Graph.{cost, hops}
use Rattle.rule.specs.Records.{Vid}
use Rattle.rule.specs.Outcome.{Outcome, answered, refused, and_then, refused_as, Written, list_answer, lent_to, overwritten}
use Rattle.rule.specs.Plan.{Plan, known_bridge, vid_record, plan_of_vid}
use Rattle.rule.specs.Check.{verdict}
use Rattle.rule.specs.Links.{count_usable, graph_of}
use Rattle.rule.specs.Paths.{chosen_path}
use Rattle.rule.specs.Entries.{entry_list_of}
use Rattle.rule.specs.Answers.{CostAndHops}
use Rattle.rule.specs.declared.answer.Counts.{Counts}

-- "Check: counts of bridges, half-links, usable links, VIDs, members."
abbrev pub counts_of : Plan → Counts
counts_of p =
    record {
      bridges = length p.bridges;
      half_links = length p.half_links;
      usable_links = count_usable p.half_links;
      vids = length p.vids;
      members = length p.members;
    }

unfoldable pub check_outcome : List ℕ → Outcome Counts
check_outcome t = and_then (verdict t) (λ p. answered (counts_of p))

module _ {A : Type 0} where
  -- "11. The call names a bridge or VID that the table lacks": the bridges named are known, and the VID has a record.
  abbrev pub named : Bool → Option Vid → (Vid → Outcome A) → Outcome A
  named false v ask = refused_as 11
  named true none ask = refused_as 11
  named true (some v) ask = ask v

abbrev pub measured : Plan → List ℕ → CostAndHops
measured p path = record { cost = cost (graph_of p) path; hops = hops path }

-- "12. No path exists."
abbrev pub path_found : Plan → Option (List ℕ) → Outcome (Written CostAndHops)
path_found p none = refused_as 12
path_found p (some path) = answered (record { values = measured p path; words = path })

-- What the path call answers, whatever list is lent: of an accepted plan, and of a table.
abbrev pub plan_path : Plan → ℕ → ℕ → ℕ → Outcome (Written CostAndHops)
plan_path p vid a b =
    named (known_bridge p a && known_bridge p b) (vid_record p vid) λ v.
    path_found (plan_of_vid p v) (chosen_path (plan_of_vid p v) v.index a b)

unfoldable pub path_answer : List ℕ → ℕ → ℕ → ℕ → Outcome (Written CostAndHops)
path_answer t vid a b = and_then (verdict t) λ p. plan_path p vid a b

-- "Path (VID, from, to): bridges into a lent list; cost, hops."
unfoldable pub path_outcome : List ℕ → ℕ → ℕ → ℕ → List ℕ → Outcome CostAndHops × List ℕ
path_outcome t vid a b lent = lent_to lent (path_answer t vid a b)

-- What the tree call gives of one bridge: the cost, hops and last bridge but one of the path to it, or 0, 0 and 65,535 where none
-- leads there.
pub record Branch : Type 0 where
  pub cost : ℕ
  pub hops : ℕ
  pub last : ℕ

-- The last bridge but one of a path; of a path without a hop, its one bridge.
unfoldable pub last_but_one : List ℕ → ℕ
last_but_one [] = 0
last_but_one (u ∷ []) = u
last_but_one (u ∷ v ∷ []) = u
last_but_one (u ∷ v ∷ w ∷ t) = last_but_one (v ∷ w ∷ t)

abbrev pub branch_of : Plan → Option (List ℕ) → Branch
branch_of p none = record { cost = 0; hops = 0; last = 65535 }
branch_of p (some path) = record { cost = cost (graph_of p) path; hops = hops path; last = last_but_one path }

unfoldable pub tree_of : Plan → ℕ → ℕ → List Branch
tree_of p index a = map (λ b. branch_of p (chosen_path p index a b)) (rising 0 (length p.bridges))

-- The later contents of three lent lists, of which each needs a place for every bridge.
abbrev pub lent_to_three :
    List ℕ →
    List ℕ →
    List ℕ →
    Outcome (List Branch) →
    Outcome ℕ × List ℕ × List ℕ × List ℕ
lent_to_three costs hop_counts lasts (refused number kind at) = (refused number kind at, costs, hop_counts, lasts)
lent_to_three costs hop_counts lasts (answered places) =
    cond
    (leb (length places) (length costs) && leb (length places) (length hop_counts) && leb (length places) (length lasts)) (
      answered (length places),
      overwritten (map (λ q. q.cost) places) costs,
      overwritten (map (λ q. q.hops) places) hop_counts,
      overwritten (map (λ q. q.last) places) lasts,
    )
    (refused_as 13, costs, hop_counts, lasts)

-- What the tree call answers of an accepted plan, whatever lists are lent.
abbrev pub plan_branches : Plan → ℕ → ℕ → Outcome (List Branch)
plan_branches p vid a = named (known_bridge p a) (vid_record p vid) λ v. answered (tree_of (plan_of_vid p v) v.index a)

-- Tree (VID, from): for each bridge its place, into three lent lists. A house form: docs/DECISIONS.md.
unfoldable pub tree_outcome : List ℕ → ℕ → ℕ → List ℕ → List ℕ → List ℕ → Outcome ℕ × List ℕ × List ℕ × List ℕ
tree_outcome t vid a costs hop_counts lasts =
    lent_to_three costs hop_counts lasts (and_then (verdict t) λ p. plan_branches p vid a)

-- What the entries call answers, whatever list is lent: the number of words, and the words; of an accepted plan, and of a table.
abbrev pub plan_entries : Plan → ℕ → Outcome (Written ℕ)
plan_entries p b = cond (known_bridge p b) (list_answer (entry_list_of p b)) (refused_as 11)

unfoldable pub entries_answer : List ℕ → ℕ → Outcome (Written ℕ)
entries_answer t b = and_then (verdict t) λ p. plan_entries p b

-- "Entries (bridge): into a lent list of words; the words written."
unfoldable pub entries_outcome : List ℕ → ℕ → List ℕ → Outcome ℕ × List ℕ
entries_outcome t b lent = lent_to lent (entries_answer t b)
