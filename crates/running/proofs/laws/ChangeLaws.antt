-- What a change comes to, from whether it may be made. Assumes nothing.
use Rattle.std.specs.Prelude.{ℕ, ◌≡◌, List, Bool, not, ◌||◌, T, length}
use Rattle.std.proofs.Math.Path.{refl, ap}
use Rattle.std.proofs.Common.{sym, ◌∙◌, subst}
use Rattle.std.proofs.Math.Option.{Option, none, some}
use Rattle.std.proofs.Math.Bool.{true, false}
use Rattle.std.proofs.Math.Dec.{leb}
use Rattle.std.proofs.lemmas.List.{length-map}
use Rattle.lists.specs.Lists.{rising, any_passes}
use Rattle.lists.proofs.laws.NumberLaws.{true-test}
use Rattle.lists.proofs.laws.SelectedLaws.{length-rising}
use Rattle.rule.specs.Records.{Vid}
use Rattle.rule.specs.Outcome.{Outcome, answered, refused, and_then, refused_if}
use Rattle.rule.specs.Plan.{Plan, known_bridge, vid_record, plan_of_vid}
use Rattle.rule.specs.Check.{verdict}
use Rattle.rule.specs.Paths.{chosen_path}
use Rattle.rule.specs.Calls.{Branch, branch_of, named, tree_of, plan_branches}
use Rattle.rule.proofs.laws.CallLaws.{refused-not-answered}
use Rattle.edits.specs.declared.change.HalfLinkName.{HalfLinkName}
use Rattle.edits.specs.declared.change.Running.{Running}
use Rattle.edits.specs.Edits.{Change, is_named, word_of, changed_plan, changed_table}
use Rattle.edits.specs.Running.{Watched, Kept, kept_with, watching, metric_out, most_changes, refused_change, with_change, changed, places_for, with_places}
use Rattle.edits.proofs.laws.RunningLaws.{passed, fits}
use Rattle.edits.proofs.laws.ChangedTables.{changed-table}
use Rattle.running.proofs.laws.PermissionLaws.{was-true}
use Rattle.running.specs.Permission.{no_vid, lacks_names, plan_permission, permission, RoomOf}

-- What a change that may be made has.
pub record Allowed (t : List ℕ) (r : Running) (n : HalfLinkName) (in_range_lem : Bool) (room k : ℕ) : Type 0 where
  pub plan : Plan
  pub accepted : verdict t ≡ answered plan
  pub names : lacks_names plan r n ≡ false
  pub there : any_passes (is_named n) plan.half_links ≡ true
  pub in_range : in_range_lem ≡ true
  pub few : leb most_changes r.changes ≡ false
  pub enough : leb (length plan.bridges) room ≡ true
  pub place : word_of plan n ≡ k

pub allowed : (t : List ℕ) (r : Running) (n : HalfLinkName) (in_range_lem : Bool) (room k : ℕ) → permission t r n in_range_lem room ≡ answered k → Allowed t r n in_range_lem room k
unfolding permission
allowed t r n in_range_lem room k e = go (verdict t) refl e
  where
    go : (o : Outcome Plan) → verdict t ≡ o → and_then o (λ p. plan_permission p r n in_range_lem room) ≡ answered k → Allowed t r n in_range_lem room k
    go (refused number kind at) v e = absurd (refused-not-answered e)
    go (answered p) v e =
        let (a, f) = passed (lacks_names p r n) 11 (refused_if (not (any_passes (is_named n) p.half_links)) 17 (refused_if (not in_range_lem) 18
        (refused_if (leb most_changes r.changes) 19 (refused_if (not (leb (length p.bridges) room)) 13 (answered (word_of p n)))))) k e
        in let (b, g) = passed (not (any_passes (is_named n) p.half_links)) 17 (refused_if (not in_range_lem) 18
        (refused_if (leb most_changes r.changes) 19 (refused_if (not (leb (length p.bridges) room)) 13 (answered (word_of p n))))) k f
        in let (c, h) = passed (not in_range_lem) 18 (refused_if (leb most_changes r.changes) 19 (refused_if (not (leb (length p.bridges) room)) 13 (answered (word_of p n)))) k g
        in let (d, i) = passed (leb most_changes r.changes) 19 (refused_if (not (leb (length p.bridges) room)) 13 (answered (word_of p n))) k h
        in let (l, j) = passed (not (leb (length p.bridges) room)) 13 (answered (word_of p n)) k i
        in record {
          plan = p;
          accepted = v;
          names = a;
          there = was-true (any_passes (is_named n) p.half_links) b;
          in_range = was-true in_range_lem c;
          few = d;
          enough = was-true (leb (length p.bridges) room) l;
          place = let same : word_of p n ≡ k = cc in same;
        }

-- The names that a change needs.
pub record Known (p : Plan) (r : Running) (n : HalfLinkName) : Type 0 where
  pub bridge : known_bridge p r.bridge ≡ true
  pub near : known_bridge p n.near ≡ true
  pub vid : (v : Vid) × (vid_record p r.vid ≡ some v)

pub known : (p : Plan) (r : Running) (n : HalfLinkName) → lacks_names p r n ≡ false → Known p r n
known p r n e = go (known_bridge p r.bridge) refl (known_bridge p n.near) refl (vid_record p r.vid) refl e
  where
    go : (a : Bool) → known_bridge p r.bridge ≡ a → (b : Bool) → known_bridge p n.near ≡ b → (o : Option Vid) → vid_record p r.vid ≡ o
        → (not a || not b || no_vid o) ≡ false → Known p r n
    go true f true g (some v) h e = record { bridge = f; near = g; vid = (v, h) }
    go true f true g none h e = absurd (subst T e tt)
    go true f false g o h e = absurd (subst T e tt)
    go false f b g o h e = absurd (subst T e tt)

-- The tree of a plan has a place for each bridge.
tree-length : (p : Plan) (index a : ℕ) → length (tree_of p index a) ≡ length p.bridges
unfolding tree_of
tree-length p index a = length-map (rising 0 (length p.bridges)) (λ b. branch_of p (chosen_path p index a b)) ∙ length-rising 0 (length p.bridges)

-- A change of a table with the plan `p`, of which the names are known and the half-link is there.
module _ (r : Running) (c : Change) (t : List ℕ) (p : Plan) (v : verdict t ≡ answered p) (K : Known p r c.name)
    (there : any_passes (is_named c.name) p.half_links ≡ true) (in_range : metric_out c.metric ≡ false) where
  abbrev pub w : Watched
  w = watching t r.bridge r.vid r.changes

  edited-accepted : verdict (changed_table p c t) ≡ answered (changed_plan c p)
  edited-accepted = changed-table t p c v (true-test (any_passes (is_named c.name) p.half_links) there) (fits c.metric in_range)

  abbrev pub new_tree : List Branch
  new_tree = tree_of (plan_of_vid (changed_plan c p) K.vid.0) K.vid.0.index r.bridge

  -- The state with its new tree.
  abbrev pub kept : Kept
  kept = record { watched = with_change p c w; tree = new_tree }

  pub is_kept : kept_with (with_change p c w) ≡ answered kept
  is_kept = ap (λ (o : Outcome Plan). and_then (and_then o λ p. plan_branches p r.vid r.bridge) λ tree. answered (record { watched = with_change p c w; tree = tree })) edited-accepted
      ∙ (λ j. and_then (named (K.bridge j) (K.vid.1 j) λ v. answered (tree_of (plan_of_vid (changed_plan c p) v) v.index r.bridge))
      λ tree. answered (record { watched = with_change p c w; tree = tree }))

  tests_left : changed w c ≡ refused_if (leb most_changes r.changes) 19 (kept_with (with_change p c w))
  unfolding changed
  tests_left =
      ap (λ (o : Outcome Plan). and_then o λ p. named (known_bridge p r.bridge) (vid_record p r.vid) λ v.
      refused_change p c r.changes (kept_with (with_change p c w))) v
      ∙ (λ j. named (K.bridge j) (K.vid.1 j) λ v. refused_if (not (K.near j)) 11 (refused_if (not (there j)) 17
      (refused_if (in_range j) 18 (refused_if (leb most_changes r.changes) 19 (kept_with (with_change p c w))))))

  module _ (few : leb most_changes r.changes ≡ false) where
    pub is_changed : changed w c ≡ answered kept
    is_changed = tests_left ∙ ap (λ (b : Bool). refused_if b 19 (kept_with (with_change p c w))) few ∙ is_kept

    module _ (costs hop_counts lasts : List ℕ) (room : ℕ) (R : RoomOf room (length costs) (length hop_counts) (length lasts)) where
      pub places : places_for new_tree costs hop_counts lasts ≡ leb (length p.bridges) room
      places = sym (R (length new_tree)) ∙ ap (λ (n : ℕ). leb n room) (tree-length (plan_of_vid (changed_plan c p) K.vid.0) K.vid.0.index r.bridge)

      pub with_places_lem : with_places costs hop_counts lasts (changed w c) ≡ refused_if (not (leb (length p.bridges) room)) 13 (answered kept)
      with_places_lem = ap (with_places costs hop_counts lasts) is_changed ∙ ap (λ (b : Bool). refused_if (not b) 13 (answered kept)) places

-- A refusal is the same whatever it refuses.
same-refusal : {A B : Type 0} {n m : ℕ} {k l : Option ℕ} {a b : ℕ} → ◌≡◌ {A = Outcome A} (refused n k a) (refused m l b)
    → ◌≡◌ {A = Outcome B} (refused n k a) (refused m l b)
same-refusal {A} {B} {n} {m} {k} {l} {a} {b} e =
    let number : n ≡ m = cc in let kind : k ≡ l = cc in let at : a ≡ b = cc in λ j. refused (number j) (kind j) (at j)

-- A refusal, as the permission has it.
module _ (r : Running) (c : Change) (t : List ℕ) (costs hop_counts lasts : List ℕ) (room : ℕ) (R : RoomOf room (length costs) (length hop_counts) (length lasts)) where
  abbrev before : Watched
  before = watching t r.bridge r.vid r.changes

  -- The tests of a change by what each comes to.
  changed_as : (p : Plan) → verdict t ≡ answered p → (a : Bool) → known_bridge p r.bridge ≡ a → (b : Bool) → known_bridge p c.name.near ≡ b
      → (o : Option Vid) → vid_record p r.vid ≡ o → (d : Bool) → any_passes (is_named c.name) p.half_links ≡ d → (m : Bool) → metric_out c.metric ≡ m
      → changed before c ≡ named a o (λ x. refused_if (not b) 11 (refused_if (not d) 17 (refused_if m 18 (refused_if (leb most_changes r.changes) 19 (kept_with (with_change p c before))))))
  unfolding changed
  changed_as p v a f b g o h d i m k =
      ap (λ (o : Outcome Plan). and_then o λ p. named (known_bridge p r.bridge) (vid_record p r.vid) λ v.
      refused_change p c r.changes (kept_with (with_change p c before))) v
      ∙ (λ j. named (f j) (h j) λ x. refused_if (not (g j)) 11 (refused_if (not (i j)) 17 (refused_if (k j) 18 (refused_if (leb most_changes r.changes) 19 (kept_with (with_change p c before))))))

  changed-refused : (number : ℕ) (kind : Option ℕ) (at : ℕ) → verdict t ≡ refused number kind at → changed before c ≡ refused number kind at
  unfolding changed
  changed-refused number kind at v = ap (λ (o : Outcome Plan). and_then o λ p. named (known_bridge p r.bridge) (vid_record p r.vid) λ v.
      refused_change p c r.changes (kept_with (with_change p c before))) v

  pub is_refused : (number : ℕ) (kind : Option ℕ) (at : ℕ) → permission t r c.name (not (metric_out c.metric)) room ≡ refused number kind at
      → with_places costs hop_counts lasts (changed before c) ≡ refused number kind at
  unfolding permission
  is_refused number kind at e = of_verdict (verdict t) refl e
    where
      -- The last tests, for a known half-link and a metric in its range.
      last_tests : (p : Plan) → verdict t ≡ answered p → Known p r c.name → any_passes (is_named c.name) p.half_links ≡ true → metric_out c.metric ≡ false
          → (full : Bool) → leb most_changes r.changes ≡ full → (long : Bool) → leb (length p.bridges) room ≡ long
          → refused_if full 19 (refused_if (not long) 13 (answered (word_of p c.name))) ≡ refused number kind at
          → with_places costs hop_counts lasts (changed before c) ≡ refused number kind at
      last_tests p v K there m true f long l e = ap (with_places costs hop_counts lasts) (tests_left r c t p v K there m
          ∙ ap (λ (b : Bool). refused_if b 19 (kept_with (with_change p c before))) f) ∙ same-refusal e
      last_tests p v K there m false f false l e = with_places_lem r c t p v K there m f costs hop_counts lasts room R
          ∙ ap (λ (b : Bool). refused_if (not b) 13 (answered (kept r c t p v K there m))) l ∙ same-refusal e
      last_tests p v K there m false f true l e = absurd (refused-not-answered (sym e))

      of_plan : (p : Plan) → verdict t ≡ answered p → (a : Bool) → known_bridge p r.bridge ≡ a → (b : Bool) → known_bridge p c.name.near ≡ b
          → (o : Option Vid) → vid_record p r.vid ≡ o → (d : Bool) → any_passes (is_named c.name) p.half_links ≡ d → (m : Bool) → metric_out c.metric ≡ m
          → refused_if (not a || not b || no_vid o) 11 (refused_if (not d) 17 (refused_if (not (not m)) 18 (refused_if (leb most_changes r.changes) 19
          (refused_if (not (leb (length p.bridges) room)) 13 (answered (word_of p c.name)))))) ≡ refused number kind at
          → with_places costs hop_counts lasts (changed before c) ≡ refused number kind at
      of_plan p v true f true g (some x) h true i false k e =
          last_tests p v (record { bridge = f; near = g; vid = (x, h) }) i k (leb most_changes r.changes) refl (leb (length p.bridges) room) refl e
      of_plan p v false f b g o h d i m k e = ap (with_places costs hop_counts lasts) (changed_as p v false f b g o h d i m k) ∙ same-refusal e
      of_plan p v true f true g none h d i m k e = ap (with_places costs hop_counts lasts) (changed_as p v true f true g none h d i m k) ∙ same-refusal e
      of_plan p v true f false g none h d i m k e = ap (with_places costs hop_counts lasts) (changed_as p v true f false g none h d i m k) ∙ same-refusal e
      of_plan p v true f false g (some x) h d i m k e = ap (with_places costs hop_counts lasts) (changed_as p v true f false g (some x) h d i m k) ∙ same-refusal e
      of_plan p v true f true g (some x) h false i m k e = ap (with_places costs hop_counts lasts) (changed_as p v true f true g (some x) h false i m k) ∙ same-refusal e
      of_plan p v true f true g (some x) h true i true k e = ap (with_places costs hop_counts lasts) (changed_as p v true f true g (some x) h true i true k) ∙ same-refusal e

      of_verdict : (o : Outcome Plan) → verdict t ≡ o → and_then o (λ p. plan_permission p r c.name (not (metric_out c.metric)) room) ≡ refused number kind at
          → with_places costs hop_counts lasts (changed before c) ≡ refused number kind at
      of_verdict (refused number' kind' at') v e = ap (with_places costs hop_counts lasts) (changed-refused number' kind' at' v) ∙ same-refusal e
      of_verdict (answered p) v e = of_plan p v (known_bridge p r.bridge) refl (known_bridge p c.name.near) refl (vid_record p r.vid) refl
          (any_passes (is_named c.name) p.half_links) refl (metric_out c.metric) refl e
