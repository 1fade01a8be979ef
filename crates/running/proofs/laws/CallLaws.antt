-- The outcomes of load and of a change, from the tree call and the edits of the table's bytes. Assumes nothing.
use Prim.Native.Nat.{ℕ, suc, ◌+◌, ◌-◌, ◌*◌, ◌/◌, ◌%◌, ◌≤◌, ◌<◌}
use Rattle.std.proofs.Common.{arith, ◌∙◌, subst, inl, inr, leb→le, le→leb, length-append, length-drop, take-append-drop, take_all, length-take-le, take_at}
use Rattle.std.proofs.Math.Path.{◌≡◌, sym, ap}
use Rattle.std.specs.Prelude.{min, refl, Result, Ok, Err, ◌⊎◌, Bool, true, false, not, cond, T, leb, length, get_or, take, drop}
use mathlib.Core.List.{List, [], ◌∷◌, ◌++◌, map, flat_map, append_assoc}
use Rattle.std.proofs.Math.Option.{Option, none, some}
use Rattle.std.proofs.lemmas.List.{drop-append-le, take_min}
use Rattle.lists.specs.Lists.{any_passes}
use Rattle.lists.proofs.laws.NumberLaws.{le_or_gt, last_of, true-test}
use Rattle.rule.specs.declared.answer.RecordKind.{RecordKind}
use Rattle.rule.specs.declared.answer.TreeAnswer.{TreeAnswer}
use Rattle.rule.specs.declared.refusal.Refusal.{Refusal}
use Rattle.rule.specs.Refusals.{refused_by}
use Rattle.rule.specs.Answers.{kind_number, tree_values}
use Rattle.rule.specs.Words.{words_of, bytes_of, word}
use Rattle.rule.specs.Records.{metric_limits, in_limits}
use Rattle.rule.specs.Outcome.{Outcome, answered, refused, and_then, refused_if, overwritten}
use Rattle.rule.specs.Plan.{Plan}
use Rattle.rule.specs.Check.{verdict}
use Rattle.rule.specs.Calls.{Branch, plan_branches, lent_to_three, tree_outcome}
use Rattle.rule.proofs.laws.CallLaws.{refused-not-answered}
use Rattle.rule.proofs.laws.ServiceLaws.{length_of_bytes}
use Rattle.readers.proofs.laws.WordLaws.{count_of_words}
use Rattle.edits.specs.declared.change.HalfLinkName.{HalfLinkName}
use Rattle.edits.specs.declared.change.Running.{Running}
use Rattle.edits.specs.Edits.{Change, is_named, with_metric_bits, with_lower_count, changed_words, changed_table}
use Rattle.edits.specs.Running.{Watched, Kept, watched_tree, kept_with, watching, watched_in, metric_out, changed, places_for, with_places, running_of, lists_after, state_after, loaded, load_outcome, change_outcome}
use Rattle.edits.proofs.laws.EditLaws.{MetricFits}
use Rattle.edits.proofs.laws.RecordWords.{accepted-records}
use Rattle.edits.proofs.laws.RunningLaws.{fits}
use Rattle.edits.proofs.laws.ChangedTables.{not-long, named-within, last-high, whole_words}
use Rattle.running.specs.Permission.{permitted_values, permission, RoomOf, FrontOf}
use Rattle.running.proofs.laws.PermissionLaws.{was-false}
use Rattle.running.proofs.laws.ChangeLaws.{Allowed, allowed, Known, known, kept, is_kept, places, with_places_lem, is_refused}

-- As many bytes as the length says, or all.
pub front-short : (n bytes : ℕ) → FrontOf n n bytes
front-short n bytes xs e = refl

pub front-all : (n bytes : ℕ) → bytes ≤ n → FrontOf bytes n bytes
front-all n bytes l xs e = take_all bytes xs (omega (arith, e)) ∙ sym (take_all n xs (omega (arith, e, l)))

pub front-lesser : (r n bytes : ℕ) → r ≡ min bytes n → FrontOf r n bytes
front-lesser r n bytes least xs e = let k : r ≡ min n (length xs) = omega arith in ap (λ (m : ℕ). take m xs) k ∙ take_min n xs

-- The tree call gives what is kept of the tree.
module _ (w : Watched) (costs hop_counts lasts : List ℕ) where
  abbrev as_tree : Outcome ℕ × List ℕ × List ℕ × List ℕ → Outcome Running × List ℕ × List ℕ × List ℕ
  as_tree (o, cs, hs, ls) = (and_then o (λ n. answered (running_of w)), cs, hs, ls)

  of_tree : (o : Outcome (List Branch)) → lists_after costs hop_counts lasts (with_places costs hop_counts lasts (and_then o λ tree. answered (record { watched = w; tree = tree })))
      ≡ as_tree (lent_to_three costs hop_counts lasts o)
  of_tree (refused number kind at) = refl
  of_tree (answered tree) = go (places_for tree costs hop_counts lasts)
    where
      go : (b : Bool) → lists_after costs hop_counts lasts (refused_if (not b) 13 (answered (record { watched = w; tree = tree })))
          ≡ as_tree (cond b (
            answered (length tree),
            overwritten (map (λ q. q.cost) tree) costs,
            overwritten (map (λ q. q.hops) tree) hop_counts,
            overwritten (map (λ q. q.last) tree) lasts,
          ) (refused 13 none 0, costs, hop_counts, lasts))
      go true = refl
      go false = refl

  pub kept-tree : (o : Outcome ℕ × List ℕ × List ℕ × List ℕ) → o ≡ tree_outcome w.table w.vid w.bridge costs hop_counts lasts
      → as_tree o ≡ lists_after costs hop_counts lasts (with_places costs hop_counts lasts (kept_with w))
  unfolding tree_outcome
  kept-tree o e = ap as_tree e ∙ sym (of_tree (watched_tree w.table w.bridge w.vid))

  pub kept-given : (a : TreeAnswer) (n : ℕ) (cs hs ls : List ℕ) → a ≡ TreeAnswer.Given n
      → ◌≡◌ {A = Outcome ℕ × List ℕ × List ℕ × List ℕ} (tree_values a, cs, hs, ls) (tree_outcome w.table w.vid w.bridge costs hop_counts lasts)
      → ◌≡◌ {A = Outcome Running × List ℕ × List ℕ × List ℕ} (answered (running_of w), cs, hs, ls)
      (lists_after costs hop_counts lasts (with_places costs hop_counts lasts (kept_with w)))
  kept-given a n cs hs ls e f = (λ j. (and_then (tree_values (sym e j)) (λ n. answered (running_of w)), cs, hs, ls)) ∙ kept-tree (tree_values a, cs, hs, ls) f

  pub kept-refused : (a : TreeAnswer) (number at : ℕ) (kind : RecordKind) (cs hs ls : List ℕ) → a ≡ TreeAnswer.Refused number kind at
      → ◌≡◌ {A = Outcome ℕ × List ℕ × List ℕ × List ℕ} (tree_values a, cs, hs, ls) (tree_outcome w.table w.vid w.bridge costs hop_counts lasts)
      → ◌≡◌ {A = Outcome Running × List ℕ × List ℕ × List ℕ} (refused number (kind_number kind) at, cs, hs, ls)
      (lists_after costs hop_counts lasts (with_places costs hop_counts lasts (kept_with w)))
  kept-refused a number at kind cs hs ls e f =
      (λ j. (and_then (tree_values (sym e j)) (λ n. answered (running_of w)), cs, hs, ls)) ∙ kept-tree (tree_values a, cs, hs, ls) f

-- A table whose tree is given is no longer than the longest.
pub given-short : (t : List ℕ) (vid bridge : ℕ) (costs hop_counts lasts : List ℕ) (a : TreeAnswer) (n : ℕ) (cs hs ls : List ℕ) → a ≡ TreeAnswer.Given n
    → ◌≡◌ {A = Outcome ℕ × List ℕ × List ℕ × List ℕ} (tree_values a, cs, hs, ls) (tree_outcome t vid bridge costs hop_counts lasts)
    → length t ≤ 9540
unfolding tree_outcome
given-short t vid bridge costs hop_counts lasts a n cs hs ls e f = go (verdict t) refl
    (ap (λ (x : Outcome ℕ × List ℕ × List ℕ × List ℕ). x.0) ((λ j. (tree_values (sym e j), cs, hs, ls)) ∙ f))
  where
    go : (o : Outcome Plan) → verdict t ≡ o
        → answered n ≡ (lent_to_three costs hop_counts lasts (and_then (verdict t) λ p. plan_branches p vid bridge)).0 → length t ≤ 9540
    go (answered p) v e = not-long (length t) (accepted-records t p v).good_length
    go (refused number kind at) v e = absurd (refused-not-answered (sym (e
        ∙ ap (λ (o : Outcome Plan). (lent_to_three costs hop_counts lasts (and_then o λ p. plan_branches p vid bridge)).0) v)))

pub load_is : (t : List ℕ) (bridge vid : ℕ) (costs hop_counts lasts : List ℕ) (x : Outcome Running × List ℕ × List ℕ × List ℕ)
    → x ≡ lists_after costs hop_counts lasts (with_places costs hop_counts lasts (kept_with (watching t bridge vid 0)))
    → x ≡ load_outcome t bridge vid costs hop_counts lasts
unfolding load_outcome loaded
load_is t bridge vid costs hop_counts lasts x e = e

-- A change that may be made

lower-length : (ws : List ℕ) → length (with_lower_count ws) ≡ length ws
unfolding with_lower_count
lower-length [] = refl
lower-length (w ∷ []) = refl
lower-length (w ∷ v ∷ ws) = omega (arith, lower-length (v ∷ ws))

-- How many words are left.
abbrev pub words_left : Option ℕ → ℕ → ℕ
words_left none n = n - 3
words_left (some m) n = n

words_left_lem : (o : Option ℕ) (k : ℕ) (ws : List ℕ) → k + 4 ≤ length ws → length (changed_words o k ws) ≡ words_left o (length ws)
words_left_lem none k ws l = omega (
  arith,
  l,
  length-append (take k ws) (with_lower_count (drop (k + 3) ws)),
  length-take-le k ws (omega (arith, l)),
  lower-length (drop (k + 3) ws),
  length-drop (k + 3) ws,
)
words_left_lem (some m) k ws l = omega (
  arith,
  l,
  length-append (take k ws) (with_metric_bits m (get_or ws k 0) ∷ drop (k + 1) ws),
  length-take-le k ws (omega (arith, l)),
  length-drop (k + 1) ws,
)

-- What the answer of `permit` says.
pub at_permitted : (a : Result ℕ Refusal) (k : ℕ) (t : List ℕ) (r : Running) (n : HalfLinkName) (in_range_lem : Bool) (room : ℕ) → a ≡ Ok k
    → permitted_values a ≡ permission t r n in_range_lem room → permission t r n in_range_lem room ≡ answered k
at_permitted a k t r n in_range_lem room e f = sym f ∙ ap permitted_values e

-- A change that `permit` allows of the table at the front of the lent bytes.
pub record MayChange (r : Running) (c : Change) (bytes : List ℕ) (len : ℕ) (in_range_lem : Bool) (room k : ℕ) : Type 0 where
  pub within : len ≤ length bytes
  pub front : FrontOf len r.length (length bytes)
  pub is_range : in_range_lem ≡ not (metric_out c.metric)
  pub may : permission (take len bytes) r c.name in_range_lem room ≡ answered k

pub may_change : (r : Running) (c : Change) (bytes : List ℕ) (len : ℕ) → (len ≤ length bytes) × FrontOf len r.length (length bytes)
    → (in_range_lem : Bool) → in_range_lem ≡ not (metric_out c.metric) → (room : ℕ) (a : Result ℕ Refusal) {k : ℕ} → a ≡ Ok k
    → permitted_values a ≡ permission (take len bytes) r c.name in_range_lem room → MayChange r c bytes len in_range_lem room k
may_change r c bytes len (within, front) in_range_lem is_range room a {k} e f =
    record { within = within; front = front; is_range = is_range; may = at_permitted a k (take len bytes) r c.name in_range_lem room e f }

module _ {r : Running} {c : Change} {bytes : List ℕ} {len : ℕ} {in_range_lem : Bool} {room k : ℕ} (M : MayChange r c bytes len in_range_lem room k) where
  abbrev t : List ℕ
  t = take len bytes

  abbrev A : Allowed t r c.name in_range_lem room k
  A = allowed t r c.name in_range_lem room k M.may

  in_range : metric_out c.metric ≡ false
  in_range = was-false (metric_out c.metric) (sym M.is_range ∙ A.in_range)

  its-fits : MetricFits c.metric
  its-fits = fits c.metric in_range

  is_there : T (any_passes (is_named c.name) A.plan.half_links)
  is_there = true-test (any_passes (is_named c.name) A.plan.half_links) A.there

  -- What the edits of the bytes ask for.
  pub front_length : length t ≡ len
  front_length = length-take-le len bytes M.within

  pub word-within : 4 * k + 16 ≤ length t
  word-within = omega (arith, A.place, named-within t A.plan c A.accepted is_there its-fits, count_of_words t, front_length)

  pub whole : length t % 4 ≡ 0
  whole = whole_words t A.plan c A.accepted is_there its-fits

  pub high : 3 ≤ word (words_of t) (length t / 4 - 1)
  high = last-high t A.plan c A.accepted is_there its-fits

  pub range_kept : in_range_lem ≡ true
  range_kept = A.in_range

  pub not_full : r.changes < 65535
  not_full = go (le_or_gt 65535 r.changes)
    where
      go : (65535 ≤ r.changes) ⊎ (r.changes < 65535) → r.changes < 65535
      go (inl l) = absurd (subst T A.few (le→leb 65535 r.changes l))
      go (inr l) = l

  -- The edited table.
  abbrev new : List ℕ
  new = flat_map bytes_of (changed_words c.metric k (words_of t))

  new_is : new ≡ changed_table A.plan c t
  unfolding changed_table
  new_is = ap (λ (i : ℕ). flat_map bytes_of (changed_words c.metric i (words_of t))) (sym A.place)

  pub new-length : length new ≡ 4 * words_left c.metric (length t / 4)
  new-length = length_of_bytes (changed_words c.metric k (words_of t))
      ∙ ap (λ (n : ℕ). 4 * n) (words_left_lem c.metric k (words_of t) (omega (arith, word-within, count_of_words t))
      ∙ ap (words_left c.metric) (count_of_words t))

  new-short : length new ≤ length t
  new-short = go c.metric (length t / 4) new-length (omega arith)
    where
      go : (o : Option ℕ) (n : ℕ) → length new ≡ 4 * words_left o n → 4 * n ≤ length t → length new ≤ length t
      go none n e l = omega (arith, e, l)
      go (some m) n e l = omega (arith, e, l)

  module _ (part : List ℕ) (edited : part ≡ overwritten new t) where
    -- The lent bytes begin with the edited table.
    bytes_after : part ++ drop len bytes ≡ overwritten new bytes
    bytes_after =
        ap (λ (x : List ℕ). x ++ drop len bytes) edited
        ∙ append_assoc new (drop (length new) t) (drop len bytes)
        ∙ ap (λ (x : List ℕ). new ++ x) (sym (drop-append-le (length new) t (drop len bytes) new-short)
        ∙ ap (drop (length new)) (take-append-drop len bytes))

    -- They are what the tree is asked of.
    pub table_again : (n : ℕ) → n ≡ length new → take n (part ++ drop len bytes) ≡ new
    table_again n e = ap (take n) bytes_after ∙ take_at new (drop (length new) bytes) n (sym e)

    pub again_length : (n : ℕ) → n ≡ length new → n ≡ length (take n (part ++ drop len bytes))
    again_length n e = e ∙ sym (ap length (table_again n e))

    module _ (costs hop_counts lasts : List ℕ) (R : RoomOf room (length costs) (length hop_counts) (length lasts)) where
      names : Known A.plan r c.name
      names = known A.plan r c.name A.names

      abbrev after : Kept
      after = kept r c t A.plan A.accepted names A.there in_range

      outcome_is : with_places costs hop_counts lasts (changed (watched_in r bytes) c) ≡ answered after
      outcome_is =
          ap (λ (x : List ℕ). with_places costs hop_counts lasts (changed (watching x r.bridge r.vid r.changes) c)) (sym (M.front bytes refl))
          ∙ with_places_lem r c t A.plan A.accepted names A.there in_range A.few costs hop_counts lasts room R
          ∙ ap (λ (b : Bool). refused_if (not b) 13 (answered after)) A.enough

      kept_is : (x : List ℕ) (n : ℕ) → x ≡ new → n ≡ suc r.changes → with_places costs hop_counts lasts (kept_with (watching x r.bridge r.vid n)) ≡ answered after
      kept_is x n e f =
          (λ j. with_places costs hop_counts lasts (kept_with (watching ((e ∙ new_is) j) r.bridge r.vid (f j))))
          ∙ ap (with_places costs hop_counts lasts) (is_kept r c t A.plan A.accepted names A.there in_range)
          ∙ ap (λ (b : Bool). refused_if (not b) 13 (answered after)) (places r c t A.plan A.accepted names A.there in_range A.few costs hop_counts lasts room R ∙ A.enough)

      pub change-made : (x : List ℕ) (n : ℕ) → x ≡ new → n ≡ r.changes + 1 → (a : Outcome Running) (cs hs ls : List ℕ)
          → ◌≡◌ {A = Outcome Running × List ℕ × List ℕ × List ℕ} (a, cs, hs, ls)
          (lists_after costs hop_counts lasts (with_places costs hop_counts lasts (kept_with (watching x r.bridge r.vid n))))
          → ◌≡◌ {A = Outcome Running × List ℕ × List ℕ × List ℕ × List ℕ} (a, part ++ drop len bytes, cs, hs, ls) (change_outcome r c bytes costs hop_counts lasts)
      unfolding change_outcome
      change-made x n e f a cs hs ls g =
          (λ j. ((lists j).0, (bytes_after ∙ ap (λ (y : List ℕ). overwritten y bytes) new_is) j, (lists j).1, (lists j).2, (lists j).3))
          ∙ ap (state_after bytes costs hop_counts lasts) (sym outcome_is)
        where
          lists : ◌≡◌ {A = Outcome Running × List ℕ × List ℕ × List ℕ} (a, cs, hs, ls) (lists_after costs hop_counts lasts (answered after))
          lists = g ∙ ap (lists_after costs hop_counts lasts) (kept_is x n e (f ∙ omega arith))

-- A test of a number's range is the negation of its being out of it.
pub in-limits : (b d : Bool) → b ≡ d → b ≡ not (not d)
in-limits b true e = e
in-limits b false e = e

-- A change that is refused leaves all as it was.
pub change-not-made : (r : Running) (c : Change) (bytes : List ℕ) (len : ℕ) → FrontOf len r.length (length bytes) → (in_range_lem : Bool)
    → in_range_lem ≡ not (metric_out c.metric) → (room : ℕ) (costs hop_counts lasts : List ℕ) → RoomOf room (length costs) (length hop_counts) (length lasts)
    → (a : Result ℕ Refusal) (refusal : Refusal) → a ≡ Err refusal
    → permitted_values a ≡ permission (take len bytes) r c.name in_range_lem room
    → (o : Outcome Running) → o ≡ refused_by refusal
    → ◌≡◌ {A = Outcome Running × List ℕ × List ℕ × List ℕ × List ℕ} (o, bytes, costs, hop_counts, lasts)
    (change_outcome r c bytes costs hop_counts lasts)
unfolding change_outcome
change-not-made r c bytes len front in_range_lem is_range room costs hop_counts lasts R a refusal e f o g =
    (λ i. (g i, bytes, costs, hop_counts, lasts))
    ∙ sym (ap (state_after bytes costs hop_counts lasts)
    (ap (λ (x : List ℕ). with_places costs hop_counts lasts (changed (watching x r.bridge r.vid r.changes) c)) (sym (front bytes refl))
    ∙ is_refused r c (take len bytes) costs hop_counts lasts room R refusal.number (kind_number refusal.kind) refusal.word
    (ap (λ (b : Bool). permission (take len bytes) r c.name b room) (sym is_range) ∙ sym f ∙ ap permitted_values e)))

-- A metric in its range has 24 bits.
pub small-metric : (m : ℕ) (b : Bool) → b ≡ in_limits metric_limits m → b ≡ true → m < 16777216
small-metric m b e f = omega (arith, leb→le m 16777215 (last_of (leb 1 m) (leb m 16777215) (true-test (in_limits metric_limits m) (sym e ∙ f))))
