-- What every list of changes leaves (02, A7, `EditedAsAsked`). Assumes nothing.
use Rattle.std.specs.Prelude.{ℕ, ◌+◌, ◌≡◌, refl, List, [], ◌∷◌, Bool, true, false, not, T, leb, length}
use Rattle.std.proofs.Common.{arith, sym, ap, ◌∙◌, subst}
use Rattle.std.proofs.Math.Option.{Option, none, some}
use Rattle.lists.specs.Lists.{any_passes}
use Rattle.lists.proofs.laws.NumberLaws.{passes}
use Rattle.rule.specs.Records.{Vid, metric_limits, in_limits}
use Rattle.rule.specs.Outcome.{Outcome, answered, refused, and_then, refused_if}
use Rattle.rule.specs.Plan.{Plan, known_bridge, vid_record}
use Rattle.rule.specs.Check.{verdict}
use Rattle.rule.specs.Calls.{Branch, named, plan_branches}
use Rattle.rule.proofs.laws.CallLaws.{refused-not-answered}
use Rattle.edits.specs.Edits.{Change, is_named, changed_plan, changed_table}
use Rattle.edits.specs.Running.{Watched, Kept, watched_tree, kept_with, loaded, metric_out, most_changes, refused_change, with_change, changed, standing, after_all, made_if, not_refused, edited_plan, edited_table, EditedAsAsked}
use Rattle.edits.proofs.laws.EditLaws.{MetricFits}
use Rattle.edits.proofs.laws.ChangedTables.{changed-table}

module _ {A : Type 0} where
  -- An outcome that is an answer passed each test before it.
  pub passed : (b : Bool) (number : ℕ) (o : Outcome A) (a : A) → refused_if b number o ≡ answered a → (b ≡ false) × (o ≡ answered a)
  passed true number o a e = absurd (refused-not-answered e)
  passed false number o a e = (refl, e)

  was-asked : {B : Type 0} (o : Outcome B) (f : B → Outcome A) (a : A) → and_then o f ≡ answered a → (b : B) × (o ≡ answered b) × (f b ≡ answered a)
  was-asked (answered b) f a e = (b, refl, e)
  was-asked (refused number kind at) f a e = absurd (refused-not-answered e)

  was-named : (known : Bool) (v : Option Vid) (f : Vid → Outcome A) (a : A) → named known v f ≡ answered a → (x : Vid) × (f x ≡ answered a)
  was-named false v f a e = absurd (refused-not-answered e)
  was-named true none f a e = absurd (refused-not-answered e)
  was-named true (some v) f a e = (v, e)

pub fits : (o : Option ℕ) → metric_out o ≡ false → MetricFits o
fits none e = tt
fits (some m) e = passes (in_limits metric_limits m) (λ t. subst T e t)

not-not : (b : Bool) → not b ≡ false → T b
not-not true e = tt
not-not false e = subst T e tt

-- What a change that was not refused leaves, where the table had the plan `p`.
record Made (p : Plan) (w : Watched) (c : Change) (k : Kept) : Type 0 where
  watched_is : k.watched ≡ with_change p c w
  accepted : verdict k.watched.table ≡ answered (changed_plan c p)
  tree_is : plan_branches (changed_plan c p) w.vid w.bridge ≡ answered k.tree

made : (p : Plan) (w : Watched) (c : Change) (k : Kept) → verdict w.table ≡ answered p → changed w c ≡ answered k → Made p w c k
unfolding changed
made p w c k v e =
    let (x, f) = was-named (known_bridge p w.bridge) (vid_record p w.vid) (λ x. refused_change p c w.changes (kept_with (with_change p c w))) k
    (ap (λ (o : Outcome Plan). and_then o λ p. named (known_bridge p w.bridge) (vid_record p w.vid) λ x. refused_change p c w.changes (kept_with (with_change p c w))) (sym v) ∙ e)
    in let (near, g) = passed (not (known_bridge p c.name.near)) 11 _ k f
    in let (there, h) = passed (not (any_passes (is_named c.name) p.half_links)) 17 _ k g
    in let (metric, i) = passed (metric_out c.metric) 18 _ k h
    in let (count, j) = passed (leb most_changes w.changes) 19 _ k i
    in let accepted = changed-table w.table p c v (not-not (any_passes (is_named c.name) p.half_links) there) (fits c.metric metric)
    in let (tree, m, n) = was-asked (watched_tree (changed_table p c w.table) w.bridge w.vid) (λ tree. answered (record { watched = with_change p c w; tree = tree })) k j
    in let (q, r, s) = was-asked (verdict (changed_table p c w.table)) (λ p. plan_branches p w.vid w.bridge) tree m
    in let same : record { watched = with_change p c w; tree = tree } ≡ k = cc
    in record {
      watched_is = ap (λ (k : Kept). k.watched) (sym same);
      accepted = ap (λ (k : Kept). verdict k.watched.table) (sym same) ∙ accepted;
      tree_is = ap (λ (o : Outcome Plan). and_then o λ p. plan_branches p w.vid w.bridge) (sym accepted) ∙ m ∙ ap (λ (k : Kept). answered k.tree) same;
    }

-- What is kept after more changes of a state whose table has the plan `p`.
record After (p : Plan) (k : Kept) (more : List Change) (e : Kept) : Type 0 where
  table_is : e.watched.table ≡ edited_table more p k.watched.table
  accepted : verdict e.watched.table ≡ answered (edited_plan more p)
  watched_bridge : e.watched.bridge ≡ k.watched.bridge
  watched_vid : e.watched.vid ≡ k.watched.vid
  tree_is : plan_branches (edited_plan more p) k.watched.vid k.watched.bridge ≡ answered e.tree
  counted : e.watched.changes ≡ k.watched.changes + length more

-- A change more before them.
one-before : (p : Plan) (k next : Kept) (c : Change) (more : List Change) (e : Kept) → Made p k.watched c next → After (changed_plan c p) next more e
    → After p k (c ∷ more) e
unfolding edited_plan edited_table
one-before p k next c more e M A = record {
  table_is = A.table_is ∙ ap (λ (w : Watched). edited_table more (changed_plan c p) w.table) M.watched_is;
  accepted = A.accepted;
  watched_bridge = A.watched_bridge ∙ ap (λ (w : Watched). w.bridge) M.watched_is;
  watched_vid = A.watched_vid ∙ ap (λ (w : Watched). w.vid) M.watched_is;
  tree_is = ap (λ (w : Watched). plan_branches (edited_plan more (changed_plan c p)) w.vid w.bridge) (sym M.watched_is) ∙ A.tree_is;
  counted = omega (arith, A.counted, ap (λ (w : Watched). w.changes) M.watched_is);
}

after-many : (cs : List Change) (p : Plan) (k : Kept) → verdict k.watched.table ≡ answered p
    → plan_branches p k.watched.vid k.watched.bridge ≡ answered k.tree → After p k (not_refused k cs) (after_all k cs)
unfolding after_all not_refused edited_plan edited_table
after-many [] p k v t = record { table_is = refl; accepted = v; watched_bridge = refl; watched_vid = refl; tree_is = t; counted = omega arith }
after-many (c ∷ cs) p k v t = go (changed k.watched c) refl (after-many cs)
  where
    go : (o : Outcome Kept) → changed k.watched c ≡ o
        → ((p : Plan) (k : Kept) → verdict k.watched.table ≡ answered p
        → plan_branches p k.watched.vid k.watched.bridge ≡ answered k.tree → After p k (not_refused k cs) (after_all k cs))
        → After p k (made_if o c (not_refused (standing k o) cs)) (after_all (standing k o) cs)
    go (answered next) e on =
        let M = made p k.watched c next v e
        in one-before p k next c (not_refused next cs) (after_all next cs) M (on (changed_plan c p) next M.accepted
        (ap (λ (w : Watched). plan_branches (changed_plan c p) w.vid w.bridge) M.watched_is ∙ M.tree_is))
    go (refused number kind at) e on = on p k v t

pub edited_as_asked : EditedAsAsked
unfolding loaded
edited_as_asked t p bridge vid k v e cs =
    let (tree, m, n) = was-asked (watched_tree t bridge vid) (λ tree. answered (record { watched = record { table = t; bridge = bridge; vid = vid; changes = 0 }; tree = tree })) k e
    in let at_load : record { table = t; bridge = bridge; vid = vid; changes = 0 } ≡ k.watched = cc
    in let tree_is : tree ≡ k.tree = cc
    in let A = after-many cs p k (ap (λ (w : Watched). verdict w.table) (sym at_load) ∙ v)
    (ap (λ (w : Watched). plan_branches p w.vid w.bridge) (sym at_load)
    ∙ ap (λ (o : Outcome Plan). and_then o λ p. plan_branches p vid bridge) (sym v) ∙ m ∙ ap (λ (x : List Branch). answered x) tree_is)
    in record {
      table_is = A.table_is ∙ ap (λ (w : Watched). edited_table (not_refused k cs) p w.table) (sym at_load);
      accepted = A.accepted;
      watched_bridge = A.watched_bridge ∙ ap (λ (w : Watched). w.bridge) (sym at_load);
      watched_vid = A.watched_vid ∙ ap (λ (w : Watched). w.vid) (sym at_load);
      tree_is = ap (λ (w : Watched). plan_branches (edited_plan (not_refused k cs) p) w.vid w.bridge) at_load ∙ A.tree_is;
      counted = omega (arith, A.counted, ap (λ (w : Watched). w.changes) at_load);
    }
