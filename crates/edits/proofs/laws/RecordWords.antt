-- A table as its records' words: an accepted table is the words of records that are read without a fault one after the other, and an end
-- record; and whatever words are so make an accepted table. Assumes nothing.
use Rattle.std.specs.Prelude.{ℕ, suc, ◌+◌, ◌-◌, ◌≤◌, ◌≡◌, refl, List, [], ◌∷◌, ◌++◌, Bool, true, false, cond, not, ◌||◌, T, eqb, leb, ltb, length, take, drop}
use Rattle.std.proofs.Common.{arith, sym, ap, ◌∙◌, subst, append_assoc, append-nil, inl, inr, eqb→eq, ltb→lt, lt→ltb, length-append, take-append-drop, length-take-le, drop-drop, drop_at}
use Rattle.std.proofs.Math.Option.{none, some}
use Rattle.lists.specs.Lists.{selected, any_passes}
use Rattle.lists.specs.Members.{In}
use Rattle.lists.proofs.laws.NumberLaws.{passes, is_true, is_false, eq_eqb}
use Rattle.lists.proofs.laws.MemberLaws.{none-not-some}
use Rattle.rule.specs.Words.{words_of, bits}
use Rattle.rule.specs.Records.{Record, end_count, Layout, field_at, layouts, layout_of, end_layout}
use Rattle.rule.specs.Outcome.{answered, refused_as}
use Rattle.rule.specs.Plan.{Plan, with_record, alike}
use Rattle.rule.specs.Check.{bad_length, outside_range, wrong_end_count, unknown_name, repeated, wrong_link, words_follow, Reading, start, Fault, fault, faults, lowest_fault, goes_on, stops, taken, judged, read_as, read_from, step_of, after, read_on, verdict}
use Rattle.rule.proofs.laws.CallLaws.{refused-not-answered}
use Rattle.rule.proofs.laws.Accepted.{NoFault, no_fault, not-ltb, HasKind, read_one}
use Rattle.edits.proofs.laws.EndRead.{accepted-ends-read}

-- The words `r` are one record of the row `l`, no end record, and no fault applies to it where the reading stands.
pub record Readable (s : Reading) (l : Layout) (r : List ℕ) : Type 0 where
  pub listed : In l layouts
  pub kind : HasKind l r
  pub whole : length r ≡ l.words
  pub no_end : end_count (l.decoded r) ≡ none
  pub faultless : lowest_fault (faults s l r) ≡ none

-- Records read one after the other lead a reading from `s` to `e`.
abbrev pub Reads : Reading → List (List ℕ) → Reading → Type 0
Reads s [] e = s ≡ e
Reads s (r ∷ rs) e = (l : Layout) × Readable s l r × Reads (read_one s l r) rs e

-- Their words one behind the other.
abbrev pub joined_words : List (List ℕ) → List ℕ
joined_words [] = []
joined_words (r ∷ rs) = r ++ joined_words rs

-- An end record that has the count of the words before it.
abbrev pub EndWord : ℕ → ℕ → Type 0
EndWord at w = (bits w 31 28 ≡ 15) × (bits w 27 0 ≡ at)

-- A record's words alone count

-- What a row reads of words: the same of a record's own words and of all words from its first on.
record LooksAt (l : Layout) (r rest : List ℕ) : Type 0 where
  same_kind : field_at 0 31 28 (r ++ rest) ≡ field_at 0 31 28 r
  same_bits : l.zero_bits (r ++ rest) ≡ l.zero_bits r
  same_ranges : outside_range l.ranges (r ++ rest) ≡ outside_range l.ranges r
  same_record : l.decoded (r ++ rest) ≡ l.decoded r

of_one : (P : List ℕ → Type 0) → ((a : ℕ) → P (a ∷ [])) → (r : List ℕ) → length r ≡ 1 → P r
of_one P f [] e = absurd (omega arith)
of_one P f (a ∷ []) e = f a
of_one P f (a ∷ b ∷ r) e = absurd (omega arith)

of_two : (P : List ℕ → Type 0) → ((a b : ℕ) → P (a ∷ b ∷ [])) → (r : List ℕ) → length r ≡ 2 → P r
of_two P f [] e = absurd (omega arith)
of_two P f (a ∷ r) e = of_one (λ r. P (a ∷ r)) (f a) r (omega arith)

pub of_three : (P : List ℕ → Type 0) → ((a b c : ℕ) → P (a ∷ b ∷ c ∷ [])) → (r : List ℕ) → length r ≡ 3 → P r
of_three P f [] e = absurd (omega arith)
of_three P f (a ∷ r) e = of_two (λ r. P (a ∷ r)) (f a) r (omega arith)

looks_at : (l : Layout) → In l layouts → (r rest : List ℕ) → length r ≡ l.words → LooksAt l r rest
unfolding any_passes
looks_at l (inl e) r rest = rw e (of_three (λ r. LooksAt _ r rest)
    (λ a b c. record { same_kind = refl; same_bits = refl; same_ranges = refl; same_record = refl }) r)
looks_at l (inr (inl e)) r rest = rw e (of_three (λ r. LooksAt _ r rest)
    (λ a b c. record { same_kind = refl; same_bits = refl; same_ranges = refl; same_record = refl }) r)
looks_at l (inr (inr (inl e))) r rest = rw e (of_one (λ r. LooksAt _ r rest)
    (λ a. record { same_kind = refl; same_bits = refl; same_ranges = refl; same_record = refl }) r)
looks_at l (inr (inr (inr (inl e)))) r rest = rw e (of_two (λ r. LooksAt _ r rest)
    (λ a b. record { same_kind = refl; same_bits = refl; same_ranges = refl; same_record = refl }) r)
looks_at l (inr (inr (inr (inr (inl e))))) r rest = rw e (of_two (λ r. LooksAt _ r rest)
    (λ a b. record { same_kind = refl; same_bits = refl; same_ranges = refl; same_record = refl }) r)
looks_at l (inr (inr (inr (inr (inr (inl e)))))) r rest = rw e (of_one (λ r. LooksAt _ r rest)
    (λ a. record { same_kind = refl; same_bits = refl; same_ranges = refl; same_record = refl }) r)
looks_at l (inr (inr (inr (inr (inr (inr k)))))) r rest = absurd k

-- Not too short either way.
long-enough : (r rest : List ℕ) (n : ℕ) → length r ≡ n → ltb (length (r ++ rest)) n ≡ ltb (length r) n
long-enough r rest n e = is_false (ltb (length (r ++ rest)) n) long ∙ sym (is_false (ltb (length r) n) own)
  where
    own : T (ltb (length r) n) → ⊥
    own h = omega (arith, e, ltb→lt (length r) n h)

    long : T (ltb (length (r ++ rest)) n) → ⊥
    long h = omega (arith, e, length-append r rest, ltb→lt (length (r ++ rest)) n h)

module _ (s : Reading) (l : Layout) (r rest : List ℕ) (i : In l layouts) (w : length r ≡ l.words) (n : end_count (l.decoded r) ≡ none) where
  seen : LooksAt l r rest
  seen = looks_at l i r rest w

  never-follow : (m : ℕ) → words_follow m (end_count (l.decoded r)) ≡ false
  never-follow m = rw n refl

  pub same-faults : faults s l (r ++ rest) ≡ faults s l r
  same-faults = λ j.
      fault 2 (ltb l.kind s.last)
      ∷ fault 3 (long-enough r rest l.words w j)
      ∷ fault 4 (not (eqb (seen.same_bits j) 0))
      ∷ fault 5 (leb l.limit (alike s.plan (seen.same_record j)))
      ∷ fault 6 (seen.same_ranges j || wrong_end_count s.at (end_count (seen.same_record j)))
      ∷ fault 7 (unknown_name s.plan (seen.same_record j))
      ∷ fault 8 (repeated s.plan (seen.same_record j))
      ∷ fault 9 (wrong_link s.plan (seen.same_record j))
      ∷ fault 10 (follow j)
      ∷ []
    where
      follow : words_follow (length (r ++ rest)) (end_count (l.decoded (r ++ rest))) ≡ words_follow (length r) (end_count (l.decoded r))
      follow = ap (λ (x : Record). words_follow (length (r ++ rest)) (end_count x)) seen.same_record ∙ never-follow (length (r ++ rest))
          ∙ sym (never-follow (length r))

  pub same_step : read_one s l (r ++ rest) ≡ read_one s l r
  same_step = ap (λ (x : Record). record { at = s.at + l.words; last = l.kind; plan = with_record s.plan x }) seen.same_record

-- An accepted table's records

-- A reading of words stands behind the records read so far.
record Behind (ws : List ℕ) (s : Reading) : Type 0 where
  records : List (List ℕ)
  read : Reads start records s
  words_are : ws ≡ joined_words records ++ drop s.at ws

pub reads_append : (s : Reading) (rs ks : List (List ℕ)) (m e : Reading) → Reads s rs m → Reads m ks e → Reads s (rs ++ ks) e
reads_append s [] ks m e f g = subst (λ (s : Reading). Reads s ks e) (sym f) g
reads_append s (r ∷ rs) ks m e (l, R, f) g = (l, R, reads_append (read_one s l r) rs ks m e f g)

pub joined_append : (rs ks : List (List ℕ)) → joined_words (rs ++ ks) ≡ joined_words rs ++ joined_words ks
joined_append [] ks = refl
joined_append (r ∷ rs) ks = ap (λ (x : List ℕ). r ++ x) (joined_append rs ks) ∙ sym (append_assoc r (joined_words rs) (joined_words ks))

module _ (ws : List ℕ) (s : Reading) (l : Layout) (i : In l layouts) (k : HasKind l (drop s.at ws))
    (n : lowest_fault (faults s l (drop s.at ws)) ≡ none) (c : end_count (l.decoded (drop s.at ws)) ≡ none) where
  abbrev rest : List ℕ
  rest = drop s.at ws

  abbrev own : List ℕ
  own = take l.words rest

  split : own ++ drop l.words rest ≡ rest
  split = take-append-drop l.words rest

  own-whole : length own ≡ l.words
  own-whole = length-take-le l.words rest (not-ltb (length rest) l.words (no_fault (faults s l rest) n).1.0)

  seen-own : LooksAt l own (drop l.words rest)
  seen-own = looks_at l i own (drop l.words rest) own-whole

  readable : Readable s l own
  readable = record {
    listed = i;
    kind = sym seen-own.same_kind ∙ ap (field_at 0 31 28) split ∙ k;
    whole = own-whole;
    no_end = own_no_end;
    faultless = ap lowest_fault (sym (same-faults s l own (drop l.words rest) i own-whole own_no_end) ∙ ap (faults s l) split) ∙ n;
  }
    where
      own_no_end : end_count (l.decoded own) ≡ none
      own_no_end = ap end_count (sym seen-own.same_record ∙ ap l.decoded split) ∙ c

  one_more : Behind ws s → Behind ws (read_one s l rest)
  one_more B = record {
    records = B.records ++ (own ∷ []);
    read = reads_append start B.records (own ∷ []) s (read_one s l rest) B.read (l, readable, same-reading);
    words_are = B.words_are ∙ ap (λ (x : List ℕ). joined_words B.records ++ x) (sym split ∙ ap (λ (x : List ℕ). own ++ x) (drop-drop l.words s.at ws))
        ∙ sym (ap (λ (x : List ℕ). x ++ drop (s.at + l.words) ws) (joined_append B.records (own ∷ []) ∙ ap (λ (x : List ℕ). joined_words B.records ++ x) (append-nil own)) ∙ append_assoc (joined_words B.records) own (drop (s.at + l.words) ws));
  }
    where
      same-reading : read_one s l own ≡ read_one s l rest
      same-reading = sym (same_step s l own (drop l.words rest) i own-whole readable.no_end) ∙ ap (read_one s l) split

-- An accepted table as its records and its end record.
pub record TableRecords (t : List ℕ) (p : Plan) : Type 0 where
  pub records : List (List ℕ)
  pub last : ℕ
  pub reading : Reading
  pub read : Reads start records reading
  pub words_are : words_of t ≡ joined_words records ++ (last ∷ [])
  pub ends : EndWord reading.at last
  pub plan_is : reading.plan ≡ p
  pub good_length : bad_length (length t) ≡ false

-- The one row of end records.
end_row : (l : Layout) → In l layouts → (r : List ℕ) (n : ℕ) → end_count (l.decoded r) ≡ some n → l ≡ end_layout
end_row l (inl e) r n c = absurd (none-not-some (rw e at c))
end_row l (inr (inl e)) r n c = absurd (none-not-some (rw e at c))
end_row l (inr (inr (inl e))) r n c = absurd (none-not-some (rw e at c))
end_row l (inr (inr (inr (inl e)))) r n c = absurd (none-not-some (rw e at c))
end_row l (inr (inr (inr (inr (inl e))))) r n c = absurd (none-not-some (rw e at c))
end_row l (inr (inr (inr (inr (inr (inl e)))))) r n c = e
end_row l (inr (inr (inr (inr (inr (inr k)))))) r n c = absurd k

-- Where the end record is read, one word is left, and it is an end record with the count of the words before it.
one_left : (s : Reading) (r : List ℕ) → HasKind end_layout r → lowest_fault (faults s end_layout r) ≡ none → (w : ℕ) × (r ≡ w ∷ []) × EndWord s.at w
unfolding any_passes
one_left s r k n = go r k (no_fault (faults s end_layout r) n)
  where
    go : (r : List ℕ) → HasKind end_layout r → NoFault (faults s end_layout r) → (w : ℕ) × (r ≡ w ∷ []) × EndWord s.at w
    go [] k (order, (short, others)) = absurd (short tt)
    go (w ∷ []) k (order, (short, (zero_bits, (limit, (count, others))))) =
        (w, refl, (k, eqb→eq (bits w 27 0) s.at (passes (eqb (bits w 27 0) s.at) count)))
    go (w ∷ v ∷ r) k (order, (short, (zero_bits, (limit, (count, (name, (repeat, (link, (follow, all))))))))) = absurd (follow (lt→ltb 1 (length (w ∷ v ∷ r)) (omega arith)))

pub accepted-records : (t : List ℕ) (p : Plan) → verdict t ≡ answered p → TableRecords t p
unfolding verdict
accepted-records t p e =
    let (s, B, E, f) = accepted-ends-read (words_of t) (Behind (words_of t)) (one_more (words_of t)) t p refl nothing_read e
    in let is_end = end_row E.row E.listed (drop s.at (words_of t)) E.count E.counted
    in let (w, left, ends) = one_left s (drop s.at (words_of t)) (subst (λ (l : Layout). HasKind l (drop s.at (words_of t))) is_end E.kind)
    (subst (λ (l : Layout). lowest_fault (faults s l (drop s.at (words_of t))) ≡ none) is_end E.faultless)
    in record {
      records = B.records;
      last = w;
      reading = s;
      read = B.read;
      words_are = B.words_are ∙ ap (λ (x : List ℕ). joined_words B.records ++ x) left;
      ends = ends;
      plan_is = f;
      good_length = good (bad_length (length t)) refl e;
    }
  where
    nothing_read : Behind (words_of t) start
    nothing_read = record { records = []; read = refl; words_are = refl }

    good : (b : Bool) → bad_length (length t) ≡ b → verdict t ≡ answered p → bad_length (length t) ≡ false
    good true g e = absurd (refused-not-answered (rw g at e))
    good false g e = g

-- Words that are so make an accepted table

-- The row of a listed kind is found.
row_of : (l : Layout) → In l layouts → layout_of l.kind ≡ some l
unfolding layout_of selected
row_of l (inl e) = rw e refl
row_of l (inr (inl e)) = rw e refl
row_of l (inr (inr (inl e))) = rw e refl
row_of l (inr (inr (inr (inl e)))) = rw e refl
row_of l (inr (inr (inr (inr (inl e))))) = rw e refl
row_of l (inr (inr (inr (inr (inr (inl e)))))) = rw e refl
row_of l (inr (inr (inr (inr (inr (inr k)))))) = absurd k

-- A record has a word or more, and no kind is above that of the end.
has_words : (l : Layout) → In l layouts → (1 ≤ l.words) × (l.kind ≤ 15)
has_words l (inl e) = rw e (omega arith, omega arith)
has_words l (inr (inl e)) = rw e (omega arith, omega arith)
has_words l (inr (inr (inl e))) = rw e (omega arith, omega arith)
has_words l (inr (inr (inr (inl e)))) = rw e (omega arith, omega arith)
has_words l (inr (inr (inr (inr (inl e))))) = rw e (omega arith, omega arith)
has_words l (inr (inr (inr (inr (inr (inl e)))))) = rw e (omega arith, omega arith)
has_words l (inr (inr (inr (inr (inr (inr k)))))) = absurd k

read_one_lem : (total : ℕ) (s : Reading) (l : Layout) (r rest : List ℕ) → Readable s l r → read_from total s (r ++ rest) ≡ goes_on (read_one s l r)
read_one_lem total s l [] rest R = absurd (omega (arith, R.whole, (has_words l R.listed).0))
read_one_lem total s l (w ∷ r) rest R =
    ap (read_as s (w ∷ (r ++ rest))) (ap layout_of R.kind ∙ row_of l R.listed)
    ∙ ap (judged s l (w ∷ (r ++ rest))) (ap lowest_fault (same-faults s l (w ∷ r) rest R.listed R.whole R.no_end) ∙ R.faultless)
    ∙ ap (taken s l (l.decoded (w ∷ (r ++ rest)))) (ap end_count seen_it.same_record ∙ R.no_end)
    ∙ ap goes_on (same_step s l (w ∷ r) rest R.listed R.whole R.no_end)
  where
    seen_it : LooksAt l (w ∷ r) rest
    seen_it = looks_at l R.listed (w ∷ r) rest R.whole

-- Reading goes on behind the records.
read-records : (ws : List ℕ) (n : ℕ) (last : List ℕ) (s : Reading) (rs : List (List ℕ)) (e : Reading) → Reads s rs e
    → drop s.at ws ≡ joined_words rs ++ last → (read_on (length rs + n) ws s ≡ read_on n ws e) × (drop e.at ws ≡ last)
unfolding read_on
read-records ws n last s [] e f d = (ap (λ (k : ℕ). read_on k ws s) {x = 0 + n} {y = n} (omega arith) ∙ ap (read_on n ws) f, subst (λ (s : Reading). drop s.at ws ≡ last) f d)
read-records ws n last s (r ∷ rs) e (l, R, f) d =
    let (g, h) = read-records ws n last (read_one s l r) rs e f behind in (
      ap (λ (k : ℕ). read_on k ws s) {x = suc (length rs) + n} {y = suc (length rs + n)} (omega arith) ∙ ap (after (read_on (length rs + n) ws)) stepped ∙ g,
      h,
    )
  where
    apart : drop s.at ws ≡ r ++ (joined_words rs ++ last)
    apart = d ∙ append_assoc r (joined_words rs) last

    behind : drop (s.at + l.words) ws ≡ joined_words rs ++ last
    behind = sym (drop-drop l.words s.at ws) ∙ ap (drop l.words) apart ∙ drop_at r (joined_words rs ++ last) l.words R.whole

    stepped : step_of ws s ≡ goes_on (read_one s l r)
    stepped = ap (read_from (length ws) s) apart ∙ read_one_lem (length ws) s l r (joined_words rs ++ last) R

-- The last kind read is not above that of the end.
last_within : (s : Reading) (rs : List (List ℕ)) (e : Reading) → Reads s rs e → s.last ≤ 15 → e.last ≤ 15
last_within s [] e f h = subst (λ (s : Reading). s.last ≤ 15) f h
last_within s (r ∷ rs) e (l, R, f) h = last_within (read_one s l r) rs e f (has_words l R.listed).1

pub none-lowest : (fs : List Fault) → NoFault fs → lowest_fault fs ≡ none
unfolding lowest_fault
none-lowest [] f = refl
none-lowest (x ∷ fs) (f, g) = ap (λ (b : Bool). cond b (some x.number) (lowest_fault fs)) (is_false x.applies f) ∙ none-lowest fs g

end-faultless : (s : Reading) (w : ℕ) → s.last ≤ 15 → EndWord s.at w → lowest_fault (faults s end_layout (w ∷ [])) ≡ none
unfolding any_passes
end-faultless s w l (k, c) = none-lowest (faults s end_layout (w ∷ []))
    (λ h. omega (arith, l, ltb→lt 15 s.last h), (λ h. h, (λ h. h, (λ h. h, (counted, (λ h. h, (λ h. h, (λ h. h, (λ h. h, tt)))))))))
  where
    counted : T (not (eqb (bits w 27 0) s.at)) → ⊥
    counted h = subst (λ (b : Bool). T (not b)) (is_true (eqb (bits w 27 0) s.at) (eq_eqb (bits w 27 0) s.at c)) h

end_read : (total : ℕ) (s : Reading) (w : ℕ) → s.last ≤ 15 → EndWord s.at w → read_from total s (w ∷ []) ≡ stops (answered s.plan)
end_read total s w l E =
    ap (read_as s (w ∷ [])) (ap layout_of E.0 ∙ row_of end_layout (inr (inr (inr (inr (inr (inl refl)))))))
    ∙ ap (judged s end_layout (w ∷ [])) (end-faultless s w l E)

-- As many records as words at most.
few-records : (s : Reading) (rs : List (List ℕ)) (e : Reading) → Reads s rs e → length rs ≤ length (joined_words rs)
few-records s [] e f = omega arith
few-records s (r ∷ rs) e (l, R, f) =
    omega (arith, few-records (read_one s l r) rs e f, R.whole, (has_words l R.listed).0, length-append r (joined_words rs))

pub records-accepted : (t : List ℕ) (rs : List (List ℕ)) (last : ℕ) (s : Reading) → words_of t ≡ joined_words rs ++ (last ∷ []) → Reads start rs s
    → EndWord s.at last → bad_length (length t) ≡ false → verdict t ≡ answered s.plan
unfolding verdict read_on
records-accepted t rs last s e f E b =
    ap (λ (x : Bool). cond x (refused_as 1) (read_on (length (words_of t)) (words_of t) start)) b
    ∙ ap (λ (n : ℕ). read_on n (words_of t) start) {x = length (words_of t)} {y = length rs + suc left} (omega (arith, enough))
    ∙ read.0
    ∙ ap (after (read_on left (words_of t))) (ap (read_from (length (words_of t)) s) read.1 ∙ end_read (length (words_of t)) s last (last_within start rs s f (omega arith)) E)
  where
    left : ℕ
    left = length (words_of t) - suc (length rs)

    enough : suc (length rs) ≤ length (words_of t)
    enough = rw e (omega (arith, few-records start rs s f, length-append (joined_words rs) (last ∷ [])))

    read : (read_on (length rs + suc left) (words_of t) start ≡ read_on (suc left) (words_of t) s) × (drop s.at (words_of t) ≡ last ∷ [])
    read = read-records (words_of t) (suc left) (last ∷ []) start rs s f e
