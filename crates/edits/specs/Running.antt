-- A running plan (02, A7): what load and a change come to, with the later contents of the lent lists, and what every list of changes leaves.
-- Assumes nothing.
use Rattle.std.specs.Prelude.{ℕ, suc, ◌≡◌, List, [], ◌∷◌, map, Bool, false, not, ◌&&◌, leb, length, take}
use Rattle.std.proofs.Math.Option.{Option, none, some}
use Rattle.lists.specs.Lists.{any_passes}
use Rattle.rule.specs.Records.{metric_limits, in_limits}
use Rattle.rule.specs.Outcome.{Outcome, answered, refused, and_then, refused_if, overwritten}
use Rattle.rule.specs.Plan.{Plan, known_bridge, vid_record}
use Rattle.rule.specs.Check.{verdict}
use Rattle.rule.specs.Calls.{Branch, named, plan_branches}
use Rattle.rule.specs.Answers.{kind_number}
use Rattle.edits.specs.declared.change.HalfLinkName.{HalfLinkName}
use Rattle.edits.specs.declared.change.Running.{Running}
use Rattle.edits.specs.declared.change.RunningAnswer.{RunningAnswer}
use Rattle.edits.specs.Edits.{Change, is_named, changed_plan, changed_table}

-- What a change goes by: the running table, the watched bridge and VID, and the changes made.
pub record Watched : Type 0 where
  pub table : List ℕ
  pub bridge : ℕ
  pub vid : ℕ
  pub changes : ℕ

-- "Keep a running table, one watched bridge and VID, its tree, and a count of changes made."
pub record Kept : Type 0 where
  pub watched : Watched
  pub tree : List Branch

-- "The tree gives for each bridge the cost, hops and last bridge but one of the path from the watched one .., or that none exists": that of
-- the tree call, "worked out from" a table.
abbrev pub watched_tree : List ℕ → ℕ → ℕ → Outcome (List Branch)
watched_tree t bridge vid = and_then (verdict t) λ p. plan_branches p vid bridge

-- The state with its tree, or the refusal that the tree has.
abbrev pub kept_with : Watched → Outcome Kept
kept_with w = and_then (watched_tree w.table w.bridge w.vid) λ tree. answered (record { watched = w; tree = tree })

abbrev pub watching : List ℕ → ℕ → ℕ → ℕ → Watched
watching t bridge vid changes = record { table = t; bridge = bridge; vid = vid; changes = changes }

-- Load (table, bridge, VID): the count begins at 0.
unfoldable pub loaded : List ℕ → ℕ → ℕ → Outcome Kept
loaded t bridge vid = kept_with (watching t bridge vid 0)

-- "18, metric out of range": a withdrawal has none.
abbrev pub metric_out : Option ℕ → Bool
metric_out none = false
metric_out (some m) = not (in_limits metric_limits m)

-- "19, 65,535 changes already made".
abbrev pub most_changes : ℕ
most_changes = 65535

module _ {A : Type 0} where
  -- "New numbers, after 11 and in this order: 17, no such half-link; 18, metric out of range; 19, 65,535 changes already made." 11 is for a
  -- near bridge that the table lacks.
  abbrev pub refused_change : Plan → Change → ℕ → Outcome A → Outcome A
  refused_change p c changes o =
      refused_if (not (known_bridge p c.name.near)) 11
      (refused_if (not (any_passes (is_named c.name) p.half_links)) 17
      (refused_if (metric_out c.metric) 18
      (refused_if (leb most_changes changes) 19 o)))

-- The state after a change: the edited table, one change more, and the tree "worked out from the edited table".
abbrev pub with_change : Plan → Change → Watched → Watched
with_change p c w =
    record { table = changed_table p c w.table; bridge = w.bridge; vid = w.vid; changes = suc w.changes }

-- A change of a running plan, whatever table it has: one that is not accepted, or lacks the watched bridge or VID, gets its own number.
unfoldable pub changed : Watched → Change → Outcome Kept
changed w c =
    and_then (verdict w.table) λ p.
    named (known_bridge p w.bridge) (vid_record p w.vid) λ v.
    refused_change p c w.changes (kept_with (with_change p c w))

-- Lent lists

-- The running table is at the front of the lent bytes: as many of them as its length says, or all where there are fewer.
abbrev pub watched_in : Running → List ℕ → Watched
watched_in r bytes = watching (take r.length bytes) r.bridge r.vid r.changes

-- The numbers of a state.
abbrev pub running_of : Watched → Running
running_of w = record { length = length w.table; bridge = w.bridge; vid = w.vid; changes = w.changes }

-- Each of the three lists has a place for every bridge.
abbrev pub places_for : List Branch → List ℕ → List ℕ → List ℕ → Bool
places_for tree costs hop_counts lasts =
    leb (length tree) (length costs) && leb (length tree) (length hop_counts) && leb (length tree) (length lasts)

-- "13. The lent list is shorter than the answer"; it comes last.
abbrev pub with_places : List ℕ → List ℕ → List ℕ → Outcome Kept → Outcome Kept
with_places costs hop_counts lasts o =
    and_then o λ k. refused_if (not (places_for k.tree costs hop_counts lasts)) 13 (answered k)

-- The numbers that the caller is given.
abbrev pub numbers_of : Outcome Kept → Outcome Running
numbers_of o = and_then o λ k. answered (running_of k.watched)

-- The later contents of the lent bytes: the running table at their front, or, on a refusal, what they were.
abbrev pub table_after : List ℕ → Outcome Kept → List ℕ
table_after bytes (answered k) = overwritten k.watched.table bytes
table_after bytes (refused number kind at) = bytes

-- The later contents of a list that keeps one part of the tree.
abbrev pub tree_after : (Branch → ℕ) → List ℕ → Outcome Kept → List ℕ
tree_after part list (answered k) = overwritten (map part k.tree) list
tree_after part list (refused number kind at) = list

-- The numbers given, and costs, hops and last bridges but one in their lists afterwards.
abbrev pub NumbersAndLists : Type 0
NumbersAndLists = Outcome Running × List ℕ × List ℕ × List ℕ

abbrev pub lists_after : List ℕ → List ℕ → List ℕ → Outcome Kept → NumbersAndLists
lists_after costs hop_counts lasts o =
    (numbers_of o, tree_after (λ q. q.cost) costs o, tree_after (λ q. q.hops) hop_counts o, tree_after (λ q. q.last) lasts o)

-- What is kept in lent lists of these lengths.
abbrev pub kept_in : List ℕ → List ℕ → List ℕ → Outcome Kept → NumbersAndLists
kept_in costs hop_counts lasts o = lists_after costs hop_counts lasts (with_places costs hop_counts lasts o)

-- Load (table, bridge, VID): the table stays in the bytes where it is.
unfoldable pub load_outcome : List ℕ → ℕ → ℕ → List ℕ → List ℕ → List ℕ → NumbersAndLists
load_outcome t bridge vid costs hop_counts lasts =
    kept_in costs hop_counts lasts (loaded t bridge vid)

-- The numbers given, the lent bytes and the three lists afterwards.
abbrev pub WholeState : Type 0
WholeState = Outcome Running × List ℕ × List ℕ × List ℕ × List ℕ

abbrev pub state_after :
    List ℕ →
    List ℕ →
    List ℕ →
    List ℕ →
    Outcome Kept →
    WholeState
state_after bytes costs hop_counts lasts o = (
  numbers_of o,
  table_after bytes o,
  tree_after (λ q. q.cost) costs o,
  tree_after (λ q. q.hops) hop_counts o,
  tree_after (λ q. q.last) lasts o,
)

-- A change of the running table that the lent bytes begin with.
unfoldable pub change_outcome :
    Running →
    Change →
    List ℕ →
    List ℕ →
    List ℕ →
    List ℕ →
    WholeState
change_outcome r c bytes costs hop_counts lasts =
    state_after bytes costs hop_counts lasts (with_places costs hop_counts lasts (changed (watched_in r bytes) c))

-- The two changes (02, A7): of a metric, and a withdrawal.
abbrev pub metric_change : HalfLinkName → ℕ → Change
metric_change n m = record { name = n; metric = some m }

abbrev pub withdrawal : HalfLinkName → Change
withdrawal n = record { name = n; metric = none }

-- What each case of an answer stands for.
abbrev pub running_values : RunningAnswer → Outcome Running
running_values (RunningAnswer.Kept r) = answered r
running_values (RunningAnswer.Refused number kind at) = refused number (kind_number kind) at

-- Every list of changes

-- "A refused change alters nothing."
abbrev pub standing : Kept → Outcome Kept → Kept
standing k (answered next) = next
standing k (refused number kind at) = k

-- The state after a list of changes, one after the other.
unfoldable pub after_all : Kept → List Change → Kept
after_all k [] = k
after_all k (c ∷ cs) = after_all (standing k (changed k.watched c)) cs

-- "the changes not refused".
abbrev pub made_if : Outcome Kept → Change → List Change → List Change
made_if (answered next) c made = c ∷ made
made_if (refused number kind at) c made = made

unfoldable pub not_refused : Kept → List Change → List Change
not_refused k [] = []
not_refused k (c ∷ cs) = made_if (changed k.watched c) c (not_refused (standing k (changed k.watched c)) cs)

-- A plan and a table with changes made one after the other.
unfoldable pub edited_plan : List Change → Plan → Plan
edited_plan [] p = p
edited_plan (c ∷ cs) p = edited_plan cs (changed_plan c p)

unfoldable pub edited_table : List Change → Plan → List ℕ → List ℕ
edited_table [] p t = t
edited_table (c ∷ cs) p t = edited_table cs (changed_plan c p) (changed_table p c t)

-- What is kept after the changes `made` of a table that was loaded with the plan `p`.
pub record AfterChanges (p : Plan) (t : List ℕ) (bridge vid : ℕ) (made : List Change) (k : Kept) : Type 0 where
  -- The running table is the loaded one with these changes; it is accepted, and its plan is the loaded one's with these changes.
  pub table_is : k.watched.table ≡ edited_table made p t
  pub accepted : verdict k.watched.table ≡ answered (edited_plan made p)
  pub watched_bridge : k.watched.bridge ≡ bridge
  pub watched_vid : k.watched.vid ≡ vid
  -- "the kept tree equals the one worked out from the edited table".
  pub tree_is : plan_branches (edited_plan made p) vid bridge ≡ answered k.tree
  -- "the count equals the changes not refused".
  pub counted : k.watched.changes ≡ length made

-- "For every list of changes after an accepted table is loaded, the kept tree equals the one worked out from the edited table, and the
-- count equals the changes not refused."
abbrev pub EditedAsAsked : Type 0
EditedAsAsked =
    (t : List ℕ) (p : Plan) (bridge vid : ℕ) (k : Kept) →
    verdict t ≡ answered p →
    loaded t bridge vid ≡ answered k →
    (cs : List Change) →
    AfterChanges p t bridge vid (not_refused k cs) (after_all k cs)
