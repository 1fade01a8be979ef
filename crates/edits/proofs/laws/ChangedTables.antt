-- The edited bytes of an accepted table are accepted, and their plan is the edited plan (02, A7). Assumes nothing.
use Rattle.std.specs.Prelude.{ℕ, ◌+◌, ◌*◌, ◌-◌, ◌/◌, ◌%◌, ◌≤◌, ◌<◌, ◌≡◌, refl, ◌⊎◌, Bool, true, false, not, ◌&&◌, ◌||◌, T, eqb, ltb, length, get_or, take, drop}
use Rattle.std.proofs.Common.{arith, sym, ◌∙◌, inl, inr, eqb→eq, ltb→lt, length-append, length-drop, take_at, drop_at, drop-drop}
use Rattle.std.proofs.Math.Path.{ap, subst}
use mathlib.Core.List.{List, [], ◌∷◌, ◌++◌, flat_map, append_assoc}
use Rattle.std.proofs.Math.Option.{Option, none, some}
use Rattle.std.proofs.Math.Bool.{cond}
use Rattle.std.proofs.lemmas.List.{get_or_at}
use Rattle.lists.specs.Lists.{cons_if, any_passes, first_passing}
use Rattle.lists.specs.Members.{In, EveryTwo}
use Rattle.lists.proofs.laws.NumberLaws.{le_or_gt, passes, is_true, is_false, eq_eqb, two-equal, either_left, either_right}
use Rattle.lists.proofs.laws.MemberLaws.{in_right}
use Rattle.lists.proofs.laws.GivenLaws.{flat_map_append, length-flat_map-each}
use Rattle.rule.specs.Words.{words_of, bytes_of, word}
use Rattle.rule.specs.Records.{HalfLink, field_at, half_link_of}
use Rattle.rule.specs.Outcome.{answered}
use Rattle.rule.specs.Plan.{Plan}
use Rattle.rule.specs.Check.{bad_length, Reading, start, verdict}
use Rattle.rule.specs.PlanLaws.{PortsApart}
use Rattle.rule.proofs.laws.ServiceLaws.{words_of_bytes}
use Rattle.rule.proofs.laws.Accepted.{not-ltb, read_one, accepted-laws}
use Rattle.readers.proofs.laws.WordLaws.{count_of_words}
use Rattle.edits.specs.declared.change.HalfLinkName.{HalfLinkName}
use Rattle.edits.specs.Edits.{Change, is_named, word_of, with_metric_bits, with_lower_count, changed_words, changed_plan, changed_table}
use Rattle.edits.proofs.laws.RecordWords.{Reads, joined_words, joined_append, EndWord, of_three, TableRecords, accepted-records, records-accepted}
use Rattle.edits.proofs.laws.EditLaws.{words_replaced_by, words_after_change, MetricFits, edited, records_next}
use Rattle.edits.proofs.laws.NamedRecord.{bridges_of, half_links_of, half_links_read, bridges-read, Located, locate}

-- The records that a change leaves

half_links_of_append : (rs ks : List (List ℕ)) → half_links_of (rs ++ ks) ≡ half_links_of rs ++ half_links_of ks
half_links_of_append [] ks = refl
half_links_of_append (r ∷ rs) ks = go (eqb (field_at 0 31 28 r) 2) (half_links_of_append rs ks)
  where
    go : (b : Bool) → half_links_of (rs ++ ks) ≡ half_links_of rs ++ half_links_of ks
        → cons_if b (half_link_of r) (half_links_of (rs ++ ks)) ≡ cons_if b (half_link_of r) (half_links_of rs) ++ half_links_of ks
    go true e = ap (λ (hs : List HalfLink). half_link_of r ∷ hs) e
    go false e = e

-- Of half-links that are apart none but one has a name.
apart-around : (hs : List HalfLink) (h : HalfLink) (ks : List HalfLink) (n : HalfLinkName) → EveryTwo PortsApart (hs ++ (h ∷ ks)) → T (is_named n h)
    → (k : HalfLink) → In k hs ⊎ In k ks → T (is_named n k) → ⊥
apart-around hs h ks n A t k i m = go hs A i
  where
    equal : (x y : HalfLink) → T (is_named n x) → T (is_named n y) → (x.near ≡ y.near) × (x.port ≡ y.port)
    equal x y s t =
        let (a, b) = two-equal x.near n.near x.port n.port s
        in let (d, e) = two-equal y.near n.near y.port n.port t
        in (a ∙ sym d, b ∙ sym e)

    go : (hs : List HalfLink) → EveryTwo PortsApart (hs ++ (h ∷ ks)) → In k hs ⊎ In k ks → ⊥
    go [] A (inl i) = i
    go [] (f, A) (inr i) = let (a, b) = equal h k t m in f k i a b
    go (x ∷ hs) (f, A) (inl (inl e)) =
        let (a, b) = equal x h (subst (λ (y : HalfLink). T (is_named n y)) e m) t in f h (in_right h hs (h ∷ ks) (inl refl)) a b
    go (x ∷ hs) (f, A) (inl (inr i)) = go hs A (inl i)
    go (x ∷ hs) (f, A) (inr i) = go hs A (inr i)

-- Records without the half-link named stay.
untouched : (c : Change) (rs : List (List ℕ)) → ((h : HalfLink) → In h (half_links_of rs) → T (is_named c.name h) → ⊥)
    → flat_map (words_after_change c) rs ≡ rs
unfolding flat_map
untouched c [] f = refl
untouched c (r ∷ rs) f = go (eqb (field_at 0 31 28 r) 2) refl f (untouched c rs)
  where
    go : (b : Bool) → eqb (field_at 0 31 28 r) 2 ≡ b → ((h : HalfLink) → In h (cons_if b (half_link_of r) (half_links_of rs)) → T (is_named c.name h) → ⊥)
        → (((h : HalfLink) → In h (half_links_of rs) → T (is_named c.name h) → ⊥) → flat_map (words_after_change c) rs ≡ rs)
        → words_after_change c r ++ flat_map (words_after_change c) rs ≡ r ∷ rs
    go true e f on = λ j. cond (e j && is_false (is_named c.name (half_link_of r)) (f (half_link_of r) (inl refl)) j) (words_replaced_by c.metric r) (r ∷ [])
        ++ on (λ h i. f h (inr i)) j
    go false e f on = λ j. cond (e j && is_named c.name (half_link_of r)) (words_replaced_by c.metric r) (r ∷ []) ++ on f j

module _ (c : Change) (rs : List (List ℕ)) (A : EveryTwo PortsApart (half_links_of rs)) (L : Located c.name rs) where
  around : (h : HalfLink) → In h (half_links_of L.front) ⊎ In h (half_links_of L.back) → T (is_named c.name h) → ⊥
  around h i = apart-around (half_links_of L.front) (half_link_of L.found) (half_links_of L.back) c.name (subst (EveryTwo PortsApart) all A) L.named h i
    where
      all : half_links_of rs ≡ half_links_of L.front ++ (half_link_of L.found ∷ half_links_of L.back)
      all = ap half_links_of L.parts ∙ half_links_of_append L.front (L.found ∷ L.back)
          ∙ ap (λ (n : ℕ). half_links_of L.front ++ cons_if (eqb n 2) (half_link_of L.found) (half_links_of L.back)) L.kind

  -- One record is changed or gone, and all others stay.
  changed-records : flat_map (words_after_change c) rs ≡ L.front ++ (words_replaced_by c.metric L.found ++ L.back)
  unfolding flat_map
  changed-records =
      ap (flat_map (words_after_change c)) L.parts
      ∙ flat_map_append (words_after_change c) L.front (L.found ∷ L.back)
      ∙ (λ j. untouched c L.front (λ h i. around h (inl i)) j ++ (named j ++ untouched c L.back (λ h i. around h (inr i)) j))
    where
      named : words_after_change c L.found ≡ words_replaced_by c.metric L.found
      named = λ j. cond (eqb (L.kind j) 2 && is_true (is_named c.name (half_link_of L.found)) L.named j) (words_replaced_by c.metric L.found) (L.found ∷ [])

-- Their words

-- The end record after a change: a withdrawal lowers its count.
abbrev end_after : Option ℕ → ℕ → ℕ
end_after none w = w - 3
end_after (some m) w = w

lower_last : (z : List ℕ) (w : ℕ) → with_lower_count (z ++ (w ∷ [])) ≡ z ++ ((w - 3) ∷ [])
unfolding with_lower_count
lower_last [] w = refl
lower_last (a ∷ []) w = refl
lower_last (a ∷ b ∷ z) w = ap (λ (x : List ℕ). a ∷ x) (lower_last (b ∷ z) w)

-- The words of the records before, of the one found, and of those behind it with the end record.
changed-at : (o : Option ℕ) (front found back : List ℕ) (w k : ℕ) → length front ≡ k → length found ≡ 3
    → front ++ (joined_words (words_replaced_by o found) ++ (back ++ (end_after o w ∷ []))) ≡ changed_words o k (front ++ (found ++ (back ++ (w ∷ []))))
changed-at none front found back w k e l = sym (λ j. taken j ++ lowered j)
  where
    taken : take k (front ++ (found ++ (back ++ (w ∷ [])))) ≡ front
    taken = take_at front (found ++ (back ++ (w ∷ []))) k e

    lowered : with_lower_count (drop (k + 3) (front ++ (found ++ (back ++ (w ∷ []))))) ≡ back ++ ((w - 3) ∷ [])
    lowered = ap with_lower_count (sym (drop-drop 3 k (front ++ (found ++ (back ++ (w ∷ [])))))
        ∙ ap (drop 3) (drop_at front (found ++ (back ++ (w ∷ []))) k e) ∙ drop_at found (back ++ (w ∷ [])) 3 l) ∙ lower_last back w
changed-at (some m) front found back w k e l = of_three (λ found. front ++ (joined_words (words_replaced_by (some m) found) ++ (back ++ (w ∷ []))) ≡ changed_words (some m) k (front ++ (found ++ (back ++ (w ∷ [])))))
    (λ x y z. sym (λ j. taken x y z j ++ (with_metric_bits m (at x y z j) ∷ left x y z j))) found l
  where
    taken : (x y z : ℕ) → take k (front ++ (x ∷ y ∷ z ∷ (back ++ (w ∷ [])))) ≡ front
    taken x y z = take_at front (x ∷ y ∷ z ∷ (back ++ (w ∷ []))) k e

    at : (x y z : ℕ) → get_or (front ++ (x ∷ y ∷ z ∷ (back ++ (w ∷ [])))) k 0 ≡ x
    at x y z = get_or_at front x (y ∷ z ∷ (back ++ (w ∷ []))) 0 k e

    left : (x y z : ℕ) → drop (k + 1) (front ++ (x ∷ y ∷ z ∷ (back ++ (w ∷ [])))) ≡ y ∷ z ∷ (back ++ (w ∷ []))
    left x y z = sym (drop-drop 1 k (front ++ (x ∷ y ∷ z ∷ (back ++ (w ∷ []))))) ∙ ap (drop 1) (drop_at front (x ∷ y ∷ z ∷ (back ++ (w ∷ []))) k e)

reads_at : (s : Reading) (rs : List (List ℕ)) (e : Reading) → Reads s rs e → e.at ≡ s.at + length (joined_words rs)
reads_at s [] e f = omega (arith, ap (λ (s : Reading). s.at) f)
reads_at s (r ∷ rs) e (l, R, f) = omega (arith, reads_at (read_one s l r) rs e f, R.whole, length-append r (joined_words rs))

-- The count of the end record fits the words before it again.
end_fits : (o : Option ℕ) (front found back : List ℕ) (w : ℕ) → length found ≡ 3 → EndWord (length (front ++ (found ++ back))) w
    → EndWord (length (front ++ (joined_words (words_replaced_by o found) ++ back))) (end_after o w)
end_fits none front found back w l (k, e) = (omega (arith, k, e, long), omega (arith, k, e, long, short))
  where
    long : length (front ++ (found ++ back)) ≡ length front + 3 + length back
    long = omega (arith, l, length-append front (found ++ back), length-append found back)

    short : length (front ++ back) ≡ length front + length back
    short = length-append front back
end_fits (some m) front found back w l (k, e) = (k, omega (arith, e, before, after))
  where
    before : length (front ++ (found ++ back)) ≡ length front + 3 + length back
    before = omega (arith, l, length-append front (found ++ back), length-append found back)

    after : length (front ++ (((with_metric_bits m (word found 0) ∷ drop 1 found) ++ []) ++ back)) ≡ length front + 3 + length back
    after = omega (
      arith,
      l,
      length-drop 1 found,
      length-append front (((with_metric_bits m (word found 0) ∷ drop 1 found) ++ []) ++ back),
      length-append ((with_metric_bits m (word found 0) ∷ drop 1 found) ++ []) back,
      length-append (with_metric_bits m (word found 0) ∷ drop 1 found) [],
    )

-- A good length is at most that of the longest table.
pub not-long : (n : ℕ) → bad_length n ≡ false → n ≤ 9540
not-long n b = not-ltb 9540 n
    (λ t. subst T b (either_left (eqb n 0 || ltb 9540 n) (not (eqb (n % 4) 0)) (either_right (eqb n 0) (ltb 9540 n) t)))

-- A table is no longer after a change, and its bytes still make whole words.
good_again : (n k : ℕ) → bad_length n ≡ false → 1 ≤ k → k ≤ n / 4 → bad_length (k * 4) ≡ false
good_again n k b l h = is_false (bad_length (k * 4)) (λ t. go (le_or_gt (k * 4) 9540) t)
  where
    not-empty : eqb (k * 4) 0 ≡ false
    not-empty = is_false (eqb (k * 4) 0) (λ e. omega (arith, l, eqb→eq (k * 4) 0 e))

    not_above : k * 4 ≤ 9540 → ltb 9540 (k * 4) ≡ false
    not_above m = is_false (ltb 9540 (k * 4)) (λ t. omega (arith, m, ltb→lt 9540 (k * 4) t))

    whole : eqb (k * 4 % 4) 0 ≡ true
    whole = is_true (eqb (k * 4 % 4) 0) (eq_eqb (k * 4 % 4) 0 (omega arith))

    go : (k * 4 ≤ 9540) ⊎ (9540 < k * 4) → T (bad_length (k * 4)) → ⊥
    go (inl m) t = subst T (λ j. (not-empty j || not_above m j) || not (whole j)) t
    go (inr m) t = omega (arith, m, h, not-long n b)

three-at-most : (o : Option ℕ) (r : List ℕ) → length r ≡ 3 → length (joined_words (words_replaced_by o r)) ≤ 3
three-at-most none r e = omega arith
three-at-most (some m) r e = omega (arith, e, length-drop 1 r, length-append (with_metric_bits m (word r 0) ∷ drop 1 r) [])

-- The last word behind each of three parts.
with_last : (a b d : List ℕ) (w : ℕ) → (a ++ (b ++ d)) ++ (w ∷ []) ≡ a ++ (b ++ (d ++ (w ∷ [])))
with_last a b d w = append_assoc a (b ++ d) (w ∷ []) ∙ ap (λ (x : List ℕ). a ++ x) (append_assoc b d (w ∷ []))

module _ (t : List ℕ) (p : Plan) (c : Change) (v : verdict t ≡ answered p) (n : T (any_passes (is_named c.name) p.half_links)) (F : MetricFits c.metric) where
  abbrev its : TableRecords t p
  its = accepted-records t p v

  links_are : p.half_links ≡ half_links_of its.records
  links_are = ap (λ (q : Plan). q.half_links) (sym its.plan_is) ∙ half_links_read start its.records its.reading its.read

  bridges_are : length p.bridges ≡ bridges_of its.records
  bridges_are = ap (λ (q : Plan). length q.bridges) (sym its.plan_is) ∙ omega (arith, bridges-read start its.records its.reading its.read)

  there : Located c.name its.records
  there = locate c.name start its.records its.reading its.read (subst (λ (hs : List HalfLink). T (any_passes (is_named c.name) hs)) links_are n)

  apart : EveryTwo PortsApart (half_links_of its.records)
  apart = subst (EveryTwo PortsApart) links_are (accepted-laws t p v).half_links.apart

  -- The first word of the half-link named.
  at-word : length (joined_words there.front) ≡ word_of p c.name
  at-word = there.place ∙ (λ j. 3 * sym bridges_are j + 3 * first_passing (is_named c.name) (sym links_are j))

  abbrev new : List (List ℕ)
  new = there.front ++ (words_replaced_by c.metric there.found ++ there.back)

  joined-old : joined_words its.records ≡ joined_words there.front ++ (there.found ++ joined_words there.back)
  joined-old = ap joined_words there.parts ∙ joined_append there.front (there.found ∷ there.back)

  joined-new : joined_words new ≡ joined_words there.front ++ (joined_words (words_replaced_by c.metric there.found) ++ joined_words there.back)
  joined-new = joined_append there.front (words_replaced_by c.metric there.found ++ there.back)
      ∙ ap (λ (x : List ℕ). joined_words there.front ++ x) (joined_append (words_replaced_by c.metric there.found) there.back)

  words_are : changed_words c.metric (word_of p c.name) (words_of t) ≡ joined_words new ++ (end_after c.metric its.last ∷ [])
  words_are =
      ap (changed_words c.metric (word_of p c.name))
      (its.words_are ∙ ap (λ (x : List ℕ). x ++ (its.last ∷ [])) joined-old
      ∙ with_last (joined_words there.front) there.found (joined_words there.back) its.last)
      ∙ sym (changed-at c.metric (joined_words there.front) there.found (joined_words there.back) its.last (word_of p c.name) at-word there.whole)
      ∙ sym (ap (λ (x : List ℕ). x ++ (end_after c.metric its.last ∷ [])) joined-new
      ∙ with_last (joined_words there.front) (joined_words (words_replaced_by c.metric there.found)) (joined_words there.back) (end_after c.metric its.last))

  -- Reading them leads to the edited plan.
  new-read : (at last : ℕ) × Reads start new (edited c its.reading at last)
  unfolding flat_map
  new-read =
      let (at, last, f) = records_next c F start its.records its.reading 0 0 (omega arith) its.read
      in (at, last, subst (λ (rs : List (List ℕ)). Reads start rs (edited c its.reading at last)) (changed-records c its.records apart there) f)

  end_again : EndWord (length (joined_words new)) (end_after c.metric its.last)
  end_again = subst (λ (n : ℕ). EndWord n (end_after c.metric its.last)) (ap length (sym joined-new))
      (end_fits c.metric (joined_words there.front) there.found (joined_words there.back) its.last there.whole
      (subst (λ (n : ℕ). EndWord n its.last) (omega (arith, reads_at start its.records its.reading its.read) ∙ ap length joined-old) its.ends))

  words-within : length (joined_words new ++ (end_after c.metric its.last ∷ [])) ≤ length (words_of t)
  words-within = omega (
    arith,
    ap length joined-new,
    ap length joined-old,
    ap length its.words_are,
    length-append (joined_words new) (end_after c.metric its.last ∷ []),
    length-append (joined_words its.records) (its.last ∷ []),
    length-append (joined_words there.front) (joined_words (words_replaced_by c.metric there.found) ++ joined_words there.back),
    length-append (joined_words (words_replaced_by c.metric there.found)) (joined_words there.back),
    length-append (joined_words there.front) (there.found ++ joined_words there.back),
    length-append there.found (joined_words there.back),
    there.whole,
    three-at-most c.metric there.found there.whole,
  )

  pub changed-length : length (changed_table p c t) ≡ 4 * length (changed_words c.metric (word_of p c.name) (words_of t))
  unfolding changed_table
  changed-length = omega (arith, length-flat_map-each bytes_of 4 (changed_words c.metric (word_of p c.name) (words_of t)) (λ w i. refl))

  length-good : bad_length (length (changed_table p c t)) ≡ false
  length-good = ap bad_length {x = length (changed_table p c t)} {y = length new-words * 4} (omega (arith, changed-length, ap length words_are))
      ∙ good_again (length t) (length new-words) its.good_length (omega (arith, length-append (joined_words new) (end_after c.metric its.last ∷ [])))
      (omega (arith, words-within, count_of_words t))
    where
      new-words : List ℕ
      new-words = joined_words new ++ (end_after c.metric its.last ∷ [])

  -- "the edited table" is accepted, and its plan is the edited plan.
  pub changed-table : verdict (changed_table p c t) ≡ answered (changed_plan c p)
  unfolding changed_table
  changed-table =
      let (at, last, f) = new-read
      in records-accepted (changed_table p c t) new (end_after c.metric its.last) (edited c its.reading at last)
      (words_of_bytes (changed_words c.metric (word_of p c.name) (words_of t)) ∙ words_are) f
      (subst (λ (n : ℕ). EndWord n (end_after c.metric its.last)) (sym (omega (arith, reads_at start new (edited c its.reading at last) f))) end_again) length-good
      ∙ ap (λ (q : Plan). answered (changed_plan c q)) its.plan_is

  -- The words of the half-link named, and the end record behind them, are within the table.
  pub named-within : word_of p c.name + 4 ≤ length (words_of t)
  named-within = omega (
    arith,
    at-word,
    ap length joined-old,
    ap length its.words_are,
    length-append (joined_words its.records) (its.last ∷ []),
    length-append (joined_words there.front) (there.found ++ joined_words there.back),
    length-append there.found (joined_words there.back),
    there.whole,
  )

  -- The end record is the last word, and its kind alone makes it 3 or more.
  pub last-high : 3 ≤ word (words_of t) (length t / 4 - 1)
  last-high = omega (arith, ap (λ (ws : List ℕ). get_or ws (length t / 4 - 1) 0) its.words_are, last_is, its.ends.0)
    where
      last_is : get_or (joined_words its.records ++ (its.last ∷ [])) (length t / 4 - 1) 0 ≡ its.last
      last_is = get_or_at (joined_words its.records) its.last [] 0 (length t / 4 - 1)
          (omega (arith, count_of_words t, ap length its.words_are, length-append (joined_words its.records) (its.last ∷ [])))

  pub whole_words : length t % 4 ≡ 0
  whole_words = eqb→eq (length t % 4) 0 (passes (eqb (length t % 4) 0)
      (λ h. subst T its.good_length (either_right (eqb (length t) 0 || ltb 9540 (length t)) (not (eqb (length t % 4) 0)) h)))
