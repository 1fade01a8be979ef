-- What the path and the entries call answer for an accepted table (01, "Calls"): the chosen path with its cost and hops, or 12; the
-- words of the bridge's entries. Assumes nothing.
use Rattle.std.specs.Prelude.{ℕ, ◌+◌, ◌≤◌, ◌<◌, ◌≡◌, refl, List, [], ◌++◌, ◌⊎◌, true, false, ◌&&◌, eqb, leb, drop}
use Rattle.std.proofs.Common.{arith, sym, ap, ◌∙◌, inl, inr, le→leb, leb→le, lt→ltb, eqb→eq, drop_of_length-le}
use Rattle.std.proofs.Math.Option.{Option, some}
use Rattle.std.proofs.Math.Bool.{cond}
use Rattle.std.proofs.Math.ListN.{length, get_elem?}
use Rattle.lists.specs.Lists.{selected, spliced}
use Rattle.lists.specs.Members.{In}
use Rattle.lists.proofs.laws.NumberLaws.{le_or_gt, both, is_true, is_false, eq_eqb}
use Rattle.lists.proofs.laws.SelectedLaws.{selected-in, in-selected}
use Rattle.lists.proofs.laws.DistinctLaws.{distinct-selected, only_one}
use Rattle.rule.specs.Records.{Vid}
use Rattle.rule.specs.Outcome.{Outcome, answered, refused, and_then, refused_as, Written, list_answer, overwritten, lent_to}
use Rattle.rule.specs.Plan.{Plan, known_bridge, vid_record, plan_of_vid}
use Rattle.rule.specs.Check.{verdict}
use Rattle.rule.specs.Paths.{chosen_path}
use Rattle.rule.specs.Entries.{entry_list_of}
use Rattle.rule.specs.Calls.{named, path_found, path_answer, entries_answer, plan_path}
use Rattle.rule.specs.PlanLaws.{PlanLaws}
use Rattle.rule.proofs.laws.OneRecord.{distinct-vids, one-vid}

-- Lent lists

holds : (m n : ℕ) → m ≤ n → leb m n ≡ true
holds m n l = is_true (leb m n) (le→leb m n l)

too_short : (m n : ℕ) → n < m → leb m n ≡ false
too_short m n l = is_false (leb m n) (λ t. omega (arith, leb→le m n t))

-- A list that is answered, into a lent one: 13, or it is written to its front.
module _ (words list : List ℕ) where
  pub fits_not : length list < length words → ◌≡◌ {A = Outcome ℕ × List ℕ} (refused_as 13, list) (lent_to list (list_answer words))
  fits_not l = rw (too_short (length words) (length list) l)

  pub fits_in : length words ≤ length list → {list' : List ℕ} → list' ≡ spliced list 0 words
      → ◌≡◌ {A = Outcome ℕ × List ℕ} (answered (length words), list') (lent_to list (list_answer words))
  fits_in l e = rw (holds (length words) (length list) l) (λ i. (answered (length words), (e ∙ front) i))
    where
      front : spliced list 0 words ≡ overwritten words list
      front = ap (λ (k : ℕ). words ++ drop k list) zero
        where
          zero : 0 + length words ≡ length words
          zero = omega arith

module _ {A : Type 0} where
  pub refused-not-answered : {n : ℕ} {k : Option ℕ} {at : ℕ} {a : A} → refused n k at ≡ answered a → ⊥
  refused-not-answered {n} {k} {at} {a} e = let z : ◌≡◌ {A = ℕ} 0 1 = cc in omega arith

  -- An answer's values and the list's later contents.
  pub lent_says : (old : List ℕ) (w : Written A) (a : A) (l : List ℕ) → lent_to old (answered w) ≡ (answered a, l)
      → (w.values ≡ a) × (overwritten w.words old ≡ l)
  lent_says old w a l e = go (le_or_gt (length w.words) (length old))
    where
      go : (length w.words ≤ length old) ⊎ (length old < length w.words) → (w.values ≡ a) × (overwritten w.words old ≡ l)
      go (inl h) = let d = rw (holds (length w.words) (length old) h) at e in
          let i : answered w.values ≡ answered a = ap (λ (z : Outcome A × List ℕ). z.0) d in (cc, ap (λ (z : Outcome A × List ℕ). z.1) d)
      go (inr h) = let d = rw (too_short (length w.words) (length old) h) at e in
          absurd (refused-not-answered (ap (λ (z : Outcome A × List ℕ). z.0) d))

  -- A list that holds the answer and no more.
  pub lent-holds : (w : Written A) → lent_to w.words (answered w) ≡ (answered w.values, w.words ++ [])
  lent-holds w = rw (holds (length w.words) (length w.words) (omega arith))
      (λ i. (answered w.values, w.words ++ drop_of_length-le w.words {i = length w.words} (omega arith) i))

  -- An answer is never refused with 12, whatever list is lent: 13 where it is too short.
  pub lent-not_12 : (old : List ℕ) (w : Written A) → (lent_to old (answered w)).0 ≡ refused_as 12 → ⊥
  lent-not_12 old w e = go (le_or_gt (length w.words) (length old))
    where
      number : Outcome A → ℕ
      number (answered a) = 0
      number (refused n k at) = n

      go : (length w.words ≤ length old) ⊎ (length old < length w.words) → ⊥
      go (inl h) = refused-not-answered (sym (rw (holds (length w.words) (length old) h) at e))
      go (inr h) = omega (arith, ap number (rw (too_short (length w.words) (length old) h) at e))

module _ (p : Plan) where
  -- What the path call answers for a VID with a record and two bridges that the plan has.
  pub named-asked : (vid : ℕ) (v : Vid) → vid_record p vid ≡ some v → (a b : ℕ) → a < length p.bridges → b < length p.bridges
      → plan_path p vid a b ≡ path_found (plan_of_vid p v) (chosen_path (plan_of_vid p v) v.index a b)
  named-asked vid v e a b h l =
      (λ i. named (is_true (known_bridge p a && known_bridge p b)
      (both (known_bridge p a) (known_bridge p b) (lt→ltb a (length p.bridges) h) (lt→ltb b (length p.bridges) l)) i)
      (e i) λ w. path_found (plan_of_vid p w) (chosen_path (plan_of_vid p w) w.index a b))

  -- The record of a VID of the plan.
  pub vid-found : PlanLaws p → (v : Vid) → In v p.vids → vid_record p v.vid ≡ some v
  vid-found L v k = ap (λ (vs : List Vid). get_elem? vs 0) (only_one (selected (λ w. eqb w.vid v.vid) p.vids) v
      (distinct-selected (λ w. eqb w.vid v.vid) p.vids (distinct-vids p L))
      (in-selected (λ w. eqb w.vid v.vid) v p.vids k (eq_eqb v.vid v.vid refl))
      (λ w i. let r = selected-in (λ w. eqb w.vid v.vid) w p.vids i in one-vid p L w v r.0 k (eqb→eq w.vid v.vid r.1)))

module _ (t : List ℕ) (p : Plan) (accepted : verdict t ≡ answered p) (L : PlanLaws p) where
  pub path-asked : (v : Vid) → In v p.vids → (a b : ℕ) → a < length p.bridges → b < length p.bridges
      → path_answer t v.vid a b ≡ path_found (plan_of_vid p v) (chosen_path (plan_of_vid p v) v.index a b)
  unfolding path_answer
  path-asked v k a b h l =
      (λ i. and_then (accepted i) λ q. plan_path q v.vid a b) ∙ named-asked p v.vid v (vid-found p L v k) a b h l

  pub entries_asked : (u : ℕ) → u < length p.bridges
      → entries_answer t u ≡ answered (record { values = length (entry_list_of p u); words = entry_list_of p u })
  unfolding entries_answer
  entries_asked u l =
      (λ i. and_then (accepted i) λ q. cond (known_bridge q u) (answered (record { values = length (entry_list_of q u); words = entry_list_of q u }))
      (refused_as 11))
      ∙ (λ i. cond (is_true (known_bridge p u) (lt→ltb u (length p.bridges) l) i)
      (answered (record { values = length (entry_list_of p u); words = entry_list_of p u })) (refused_as 11))
