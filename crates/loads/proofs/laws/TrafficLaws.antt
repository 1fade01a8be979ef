-- The traffic of a table as words, and its own ECT indexes. Assumes nothing.
use Rattle.std.specs.Prelude.{ℕ, ◌+◌, ◌*◌, ◌≤◌, ◌<◌, ◌≡◌, List, ◌⊎◌, length, get_or, set, take}
use Rattle.std.proofs.Common.{arith, ap, ◌∙◌, inl, inr, length-set, length-take, get_or-set_same, get_or-set_other, ext_get_or, get_or-take, eq-eqb, ne_eqb}
use Rattle.std.proofs.Math.Path.{sym}
use Rattle.std.proofs.lemmas.List.{length-map}
use Rattle.lists.specs.Lists.{rising, first_passing}
use Rattle.lists.proofs.laws.NumberLaws.{same_or_not}
use Rattle.lists.proofs.laws.MemberLaws.{map_at}
use Rattle.lists.proofs.laws.FirstPassing.{first-within, SeekingFirst, first-starts, first_on, first_found, first_missing, first_of_map}
use Rattle.rule.specs.Records.{Vid, Traffic, vid_of, traffic_of}
use Rattle.rule.specs.Plan.{Plan, has_vid}
use Rattle.rule.specs.Loads.{no_traffic, own_indexes, vid_place}
use Rattle.table.specs.declared.shape.Shape.{Shape}
use Rattle.table.specs.Positions.{record_at, records_at, vids_from, traffic_from, plan_at}
use Rattle.table.specs.Numbered.{vid_number, traffic_number}
use Rattle.table.proofs.laws.PositionLaws.{how_many, record-at}
use Rattle.loads.specs.Reports.{vid_word, amount_word, from_word, to_word, traffic_at, TrafficWords, RecordWritten}

-- The record of a VID is sought.
module _ (ws : List ℕ) (s : Shape) (number : ℕ) where
  abbrev pub SeekingPlace : ℕ → Type 0
  SeekingPlace k = SeekingFirst (λ k. has_vid number (vid_number ws s k)) s.vids k

  pub place-starts : SeekingPlace 0
  place-starts = first-starts (λ k. has_vid number (vid_number ws s k)) s.vids

  place_is : first_passing (λ k. has_vid number (vid_number ws s k)) (rising 0 s.vids) ≡ vid_place (plan_at ws s) number
  unfolding records_at
  place_is = sym (first_of_map (record_at vid_of 1 (vids_from s) ws) (has_vid number) (rising 0 s.vids))

  module _ {k : ℕ} (S : SeekingPlace k) (v : Vid) (e : v ≡ vid_number ws s k) (l : k < s.vids) where
    pub place-on : (v.vid ≡ number → ⊥) → SeekingPlace (k + 1)
    place-on d = first_on S l (ap (has_vid number) (sym e) ∙ ne_eqb v.vid number d)

    pub place_found : v.vid ≡ number → k ≡ vid_place (plan_at ws s) number
    place_found d = first_found S l (ap (has_vid number) (sym e) ∙ eq-eqb v.vid number d) ∙ place_is

  pub place_missing : {k : ℕ} → SeekingPlace k → s.vids ≤ k → k ≡ vid_place (plan_at ws s) number
  place_missing S l = first_missing S l ∙ place_is

  pub place-few : {k : ℕ} → k ≡ vid_place (plan_at ws s) number → k ≤ s.vids
  place-few e = omega (arith, e, first-within (has_vid number) (plan_at ws s).vids, how_many vid_of 1 (vids_from s) ws s.vids)

-- Four words in a row, written one after the other.
module _ (xs : List ℕ) (at a b c d : ℕ) where
  abbrev one : List ℕ
  one = set xs at a

  abbrev two : List ℕ
  two = set one (at + 1) b

  abbrev three : List ℕ
  three = set two (at + 2) c

  abbrev pub four : List ℕ
  four = set three (at + 3) d

  module _ (room : at + 4 ≤ length xs) where
    same-two : length two ≡ length xs
    same-two = length-set one (at + 1) b ∙ length-set xs at a

    same-three : length three ≡ length xs
    same-three = length-set two (at + 2) c ∙ same-two

    first_word : get_or four at 0 ≡ a
    first_word =
        get_or-set_other three (at + 3) at d 0 (λ e. omega arith)
        ∙ get_or-set_other two (at + 2) at c 0 (λ e. omega arith)
        ∙ get_or-set_other one (at + 1) at b 0 (λ e. omega arith)
        ∙ get_or-set_same xs at a 0 (omega arith)

    second_word : get_or four (at + 1) 0 ≡ b
    second_word =
        get_or-set_other three (at + 3) (at + 1) d 0 (λ e. omega arith)
        ∙ get_or-set_other two (at + 2) (at + 1) c 0 (λ e. omega arith)
        ∙ get_or-set_same one (at + 1) b 0 (omega (arith, length-set xs at a))

    third-word : get_or four (at + 2) 0 ≡ c
    third-word = get_or-set_other three (at + 3) (at + 2) d 0 (λ e. omega arith) ∙ get_or-set_same two (at + 2) c 0 (omega (arith, same-two))

    fourth-word : get_or four (at + 3) 0 ≡ d
    fourth-word = get_or-set_same three (at + 3) d 0 (omega (arith, same-three))

    word-before : (j : ℕ) → j < at → get_or four j 0 ≡ get_or xs j 0
    word-before j h =
        get_or-set_other three (at + 3) j d 0 (λ e. omega arith)
        ∙ get_or-set_other two (at + 2) j c 0 (λ e. omega arith)
        ∙ get_or-set_other one (at + 1) j b 0 (λ e. omega arith)
        ∙ get_or-set_other xs at j a 0 (λ e. omega arith)

-- The words of a record.
pub record-written : (ws : List ℕ) (s : Shape) (i : ℕ) → i < s.traffic → (t : Traffic) → t ≡ traffic_number ws s i → (words : List ℕ)
    → 4 * i + 4 ≤ length words → (place : ℕ) → place ≡ vid_place (plan_at ws s) t.vid
    → RecordWritten (plan_at ws s) i words (four words (4 * i) place t.amount t.from t.to)
record-written ws s i known t read words room place e = record {
  vid_is = first_word words (4 * i) place t.amount t.from t.to room ∙ e ∙ ap (λ (r : Traffic). vid_place (plan_at ws s) r.vid) here;
  amount_is = second_word words (4 * i) place t.amount t.from t.to room ∙ ap (λ (r : Traffic). r.amount) here;
  from_is = third-word words (4 * i) place t.amount t.from t.to room ∙ ap (λ (r : Traffic). r.from) here;
  to_is = fourth-word words (4 * i) place t.amount t.from t.to room ∙ ap (λ (r : Traffic). r.to) here;
  kept = word-before words (4 * i) place t.amount t.from t.to room;
}
  where
    here : t ≡ traffic_at (plan_at ws s).traffic i
    here = read ∙ sym (record-at traffic_of 2 (traffic_from s) ws s.traffic i no_traffic known)

-- The words of the first `i` records are written.
pub record WrittenSoFar (p : Plan) (i : ℕ) (words : List ℕ) : Type 0 where
  pub vid_is : (j : ℕ) → j < i → vid_word words j ≡ vid_place p (traffic_at p.traffic j).vid
  pub amount_is : (j : ℕ) → j < i → amount_word words j ≡ (traffic_at p.traffic j).amount
  pub from_is : (j : ℕ) → j < i → from_word words j ≡ (traffic_at p.traffic j).from
  pub to_is : (j : ℕ) → j < i → to_word words j ≡ (traffic_at p.traffic j).to

pub none_written : (p : Plan) (words : List ℕ) → WrittenSoFar p 0 words
none_written p words = record {
  vid_is = λ j h. absurd (omega arith);
  amount_is = λ j h. absurd (omega arith);
  from_is = λ j h. absurd (omega arith);
  to_is = λ j h. absurd (omega arith);
}

module _ {p : Plan} {i : ℕ} {words after : List ℕ} (W : WrittenSoFar p i words) (R : RecordWritten p i words after) where
  -- A word of an earlier record, or of the record written last.
  earlier-or-last : (word at : ℕ → ℕ) → ((j : ℕ) → j < i → at j < 4 * i) → ((j : ℕ) → j < i → get_or words (at j) 0 ≡ word j)
      → get_or after (at i) 0 ≡ word i → (j : ℕ) → j < i + 1 → get_or after (at j) 0 ≡ word j
  earlier-or-last word at before so_far last j h = go (same_or_not j i)
    where
      go : (j ≡ i) ⊎ (j ≡ i → ⊥) → get_or after (at j) 0 ≡ word j
      go (inl e) = rw e last
      go (inr d) = let l : j < i = omega arith in R.kept (at j) (before j l) ∙ so_far j l

  pub one-more-written : WrittenSoFar p (i + 1) after
  one-more-written = record {
    vid_is = earlier-or-last (λ j. vid_place p (traffic_at p.traffic j).vid) (λ j. 4 * j) (λ j h. omega arith) W.vid_is R.vid_is;
    amount_is = earlier-or-last (λ j. (traffic_at p.traffic j).amount) (λ j. 4 * j + 1) (λ j h. omega arith) W.amount_is R.amount_is;
    from_is = earlier-or-last (λ j. (traffic_at p.traffic j).from) (λ j. 4 * j + 2) (λ j h. omega arith) W.from_is R.from_is;
    to_is = earlier-or-last (λ j. (traffic_at p.traffic j).to) (λ j. 4 * j + 3) (λ j h. omega arith) W.to_is R.to_is;
  }

pub all-written : (ws : List ℕ) (s : Shape) {i : ℕ} {words : List ℕ} → WrittenSoFar (plan_at ws s) i words → s.traffic ≤ i
    → TrafficWords (plan_at ws s) (plan_at ws s).traffic words
all-written ws s W l = record {
  vid_is = λ j h. W.vid_is j (omega (arith, counted));
  amount_is = λ j h. W.amount_is j (omega (arith, counted));
  from_is = λ j h. W.from_is j (omega (arith, counted));
  to_is = λ j h. W.to_is j (omega (arith, counted));
}
  where
    counted : length (plan_at ws s).traffic ≡ s.traffic
    counted = how_many traffic_of 2 (traffic_from s) ws s.traffic

-- The indexes of the first `k` VID records are written.
pub record IndexesSoFar (ws : List ℕ) (s : Shape) (k : ℕ) (indexes : List ℕ) : Type 0 where
  pub each : (j : ℕ) → j < k → get_or indexes j 0 ≡ (vid_number ws s j).index

pub no_indexes : (ws : List ℕ) (s : Shape) (indexes : List ℕ) → IndexesSoFar ws s 0 indexes
no_indexes ws s indexes = record { each = λ j h. absurd (omega arith) }

pub index-more : {ws : List ℕ} {s : Shape} {k : ℕ} {indexes : List ℕ} → IndexesSoFar ws s k indexes → k < length indexes
    → (index : ℕ) → index ≡ (vid_number ws s k).index → IndexesSoFar ws s (k + 1) (set indexes k index)
index-more {ws} {s} {k} {indexes} I l index e = record { each = λ j h. go j h (same_or_not j k) }
  where
    go : (j : ℕ) → j < k + 1 → (j ≡ k) ⊎ (j ≡ k → ⊥) → get_or (set indexes k index) j 0 ≡ (vid_number ws s j).index
    go j h (inl f) = rw f (get_or-set_same indexes k index 0 l ∙ e)
    go j h (inr d) = get_or-set_other indexes k j index 0 d ∙ I.each j (omega arith)

pub all_indexes : (ws : List ℕ) (s : Shape) {k : ℕ} {indexes : List ℕ} → IndexesSoFar ws s k indexes → s.vids ≤ k → s.vids ≤ length indexes
    → take s.vids indexes ≡ own_indexes (plan_at ws s)
all_indexes ws s {k} {indexes} I l room = ext_get_or 0 (take s.vids indexes) (own_indexes (plan_at ws s)) (taken ∙ sym counted) each
  where
    taken : length (take s.vids indexes) ≡ s.vids
    taken = simp length-take (omega arith)

    listed : length (plan_at ws s).vids ≡ s.vids
    listed = how_many vid_of 1 (vids_from s) ws s.vids

    counted : length (own_indexes (plan_at ws s)) ≡ s.vids
    counted = length-map (plan_at ws s).vids (λ v. v.index) ∙ listed

    each : (j : ℕ) → j < length (take s.vids indexes) → get_or (take s.vids indexes) j 0 ≡ get_or (own_indexes (plan_at ws s)) j 0
    each j h =
        get_or-take s.vids indexes j 0 (omega (arith, taken))
        ∙ I.each j (omega (arith, taken))
        ∙ ap (λ (v : Vid). v.index) (sym (record-at vid_of 1 (vids_from s) ws s.vids j (record { vid = 0; index = 0 }) (omega (arith, taken))))
        ∙ sym (map_at (λ v. v.index) (plan_at ws s).vids j (record { vid = 0; index = 0 }) 0 (omega (arith, taken, listed)))
