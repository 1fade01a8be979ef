-- How the faults of one record are found one after the other: one law over the rows of the table of record kinds. Assumes nothing.
use Rattle.std.specs.Prelude.{ℕ, ◌+◌, ◌*◌, ◌-◌, ◌/◌, ◌≤◌, ◌<◌, ◌≡◌, refl, List, [], ◌∷◌, ◌⊎◌, Bool, true, false, not, cond, Result, Ok, Err, IsErrAnd, ◌||◌, eqb, leb, ltb, length, take, drop}
use Rattle.std.proofs.Common.{arith, sym, ap, ◌∙◌, inl, inr, length-drop, lt-ltb, le-ltb}
use Rattle.std.proofs.Math.Option.{Option, some}
use Rattle.lists.proofs.laws.NumberLaws.{le_or_gt}
use Rattle.rule.specs.Records.{Record, HalfLink, Member, Traffic, half_link, member, traffic, bridge_of, half_link_of, member_of, traffic_of, Layout, half_link_layout, member_layout, traffic_layout, end_count}
use Rattle.rule.specs.Plan.{alike, known_vid}
use Rattle.rule.specs.Check.{Reading, Fault as Check·Fault, fault, faults, lowest_fault, outside_range, wrong_end_count, unknown_ends, unknown_name, repeated, wrong_link, words_follow}
use Rattle.rule.specs.Refusals.{fault_number}
use Rattle.rule.specs.declared.refusal.Fault.{Fault}
use Rattle.readers.specs.declared.fault.RecordFault.{RecordFault}
use Rattle.readers.specs.declared.half_link.HalfLink.{HalfLink as table·HalfLink}
use Rattle.readers.specs.declared.member.Member.{Member as table·Member}
use Rattle.readers.specs.declared.traffic.Traffic.{Traffic as table·Traffic}
use Rattle.rule.specs.Words.{words_of}
use Rattle.table.specs.declared.shape.Shape.{Shape}
use Rattle.readers.proofs.laws.WordLaws.{count_of_words, words-from}
use Rattle.table.specs.Positions.{words_read, last_kind, plan_at, reading_at}
use Rattle.table.proofs.laws.PositionLaws.{how_many}
use Rattle.readers.specs.Readers.{Read, cut, zero_bit, out_of_range, whole, read_of, read_by, half_link_values, member_values, traffic_values}
use Rattle.faults.specs.Faults.{numbered, fault_at, within_limit, without_own_fault}
use Rattle.faults.proofs.laws.FaultNotions.{lowest_of_read, or_left, left_by_tests, faults_left, lowest_left}

-- By what the reader found: its answer stands for what it finds in the record's words.
by_read :
    {A : Type 0} (standing : A → Record) (lower full : Bool) (read : Result A RecordFault) (left : Option ℕ) →
    or_left (cond lower (Err Fault.Kind) (within_limit full read)) left ≡ cond lower (some 2) (lowest_of_read full (read_by standing read) left)
by_read standing true full read left = refl
by_read standing false true (Ok a) left = refl
by_read standing false false (Ok a) left = refl
by_read standing false full (Err RecordFault.Cut) left = refl
by_read standing false full (Err RecordFault.ZeroBit) left = refl
by_read standing false true (Err RecordFault.OutOfRange) left = refl
by_read standing false false (Err RecordFault.OutOfRange) left = refl

-- Over the tests alone: lower kind, cut, zero bits clear, limit reached, outside a range, wrong end count.
by_tests :
    (lower is_cut clear full outside wrong : Bool) (rest : List Check·Fault) (e : Record) →
    cond lower (some 2)
    (lowest_of_read full (cond is_cut cut (cond clear (cond outside out_of_range (whole e)) zero_bit)) (lowest_fault (fault 6 wrong ∷ rest)))
    ≡ lowest_fault (fault 2 lower ∷ fault 3 is_cut ∷ fault 4 (not clear) ∷ fault 5 full ∷ fault 6 (outside || wrong) ∷ rest)
unfolding lowest_fault
by_tests true is_cut clear full outside wrong rest e = refl
by_tests false true clear full outside wrong rest e = refl
by_tests false false false full outside wrong rest e = refl
by_tests false false true true true wrong rest e = refl
by_tests false false true true false wrong rest e = refl
by_tests false false true false true wrong rest e = refl
by_tests false false true false false wrong rest e = refl

-- What `own`, the record or the fault that it shows by itself, says of its lowest fault: that it is it, or that it is among those left.
pub record Shows {A : Type 0} (own : Result A Fault) (lowest left : Option ℕ) : Type 0 where
  pub shown : (found : Fault) → own ≡ Err found → some (fault_number found) ≡ lowest
  pub passed : (a : A) → own ≡ Ok a → left ≡ lowest

shows : {A : Type 0} (own : Result A Fault) (left : Option ℕ) {lowest : Option ℕ} → or_left own left ≡ lowest → Shows own lowest left
shows own left e =
    record {
      shown = λ found h. sym (ap (λ x. or_left x left) h) ∙ e;
      passed = λ a h. sym (ap (λ x. or_left x left) h) ∙ e;
    }

module _ (s : Reading) (l : Layout) (r : List ℕ) where
  shown_or_left :
      {A : Type 0} (standing : A → Record) (read : Result A RecordFault) →
      read_by standing read ≡ read_of l r →
      or_left (without_own_fault s.last l.kind read (alike s.plan (l.decoded r)) l.limit)
      (lowest_fault (faults_left s (l.decoded r) (length r)))
      ≡ lowest_fault (faults s l r)
  unfolding without_own_fault read_of
  shown_or_left standing read e =
      by_read standing (ltb l.kind s.last) (leb l.limit (alike s.plan (l.decoded r))) read
      (lowest_fault (faults_left s (l.decoded r) (length r)))
      ∙ ap
      (λ (found : Read). cond (ltb l.kind s.last) (some 2)
      (lowest_of_read (leb l.limit (alike s.plan (l.decoded r))) found (lowest_fault (faults_left s (l.decoded r) (length r)))))
      e
      ∙ by_tests
      (ltb l.kind s.last)
      (ltb (length r) l.words)
      (eqb (l.zero_bits r) 0)
      (leb l.limit (alike s.plan (l.decoded r)))
      (outside_range l.ranges r)
      (wrong_end_count s.at (end_count (l.decoded r)))
      (fault 7 (unknown_name s.plan (l.decoded r))
      ∷ fault 8 (repeated s.plan (l.decoded r))
      ∷ fault 9 (wrong_link s.plan (l.decoded r))
      ∷ fault 10 (words_follow (length r) (end_count (l.decoded r)))
      ∷ [])
      (l.decoded r)

  -- For whatever its reader gave, and whatever that stands for.
  pub shows_by_itself :
      {A : Type 0} (standing : A → Record) (read : Result A RecordFault) →
      read_by standing read ≡ read_of l r →
      Shows (without_own_fault s.last l.kind read (alike s.plan (l.decoded r)) l.limit)
      (lowest_fault (faults s l r))
      (lowest_fault (faults_left s (l.decoded r) (length r)))
  shows_by_itself standing read e =
      shows
      (without_own_fault s.last l.kind read (alike s.plan (l.decoded r)) l.limit)
      (lowest_fault (faults_left s (l.decoded r) (length r)))
      (shown_or_left standing read e)

-- The record that a reader found whole is the one that its words hold.
whole-decoded : (l : Layout) (r : List ℕ) (e : Record) → read_of l r ≡ whole e → l.decoded r ≡ e
unfolding read_of
whole-decoded l r e h = go (ltb (length r) l.words) (eqb (l.zero_bits r) 0) (outside_range l.ranges r) h
  where
    go : (a b c : Bool) → cond a cut (cond b (cond c out_of_range (whole (l.decoded r))) zero_bit) ≡ whole e → l.decoded r ≡ e
    go true b c h = let z : ◌≡◌ {A = ℕ} 0 1 = cc in absurd (omega arith)
    go false true true h = let z : ◌≡◌ {A = ℕ} 0 1 = cc in absurd (omega arith)
    go false true false h = cc
    go false false c h = let z : ◌≡◌ {A = ℕ} 0 1 = cc in absurd (omega arith)

no_err : {A : Type 0} {fault : Fault} {a : A} → Err fault ≡ Ok a → ⊥
no_err e = let z : ◌≡◌ {A = ℕ} 0 1 = cc in omega arith

-- A record without a fault of its own is the one that its reader found.
without-is-read :
    {A : Type 0} (last kind count limit : ℕ) (read : Result A RecordFault) (a : A) →
    without_own_fault last kind read count limit ≡ Ok a → read ≡ Ok a
unfolding without_own_fault
without-is-read last kind count limit read a = go (ltb kind last) (leb limit count) read
  where
    go : (lower full : Bool) (read : Result _ RecordFault) → cond lower (Err Fault.Kind) (within_limit full read) ≡ Ok a → read ≡ Ok a
    go true full read e = absurd (no_err e)
    go false true (Ok b) e = absurd (no_err e)
    go false false (Ok b) e = cc
    go false full (Err found) e = absurd (no_err e)

-- Of the faults left, by their tests.
left_over :
    (s : Reading) (e : Record) (n : ℕ) (b6 b7 b8 b9 b10 : Bool) →
    wrong_end_count s.at (end_count e) ≡ b6 →
    unknown_name s.plan e ≡ b7 →
    repeated s.plan e ≡ b8 →
    wrong_link s.plan e ≡ b9 →
    words_follow n (end_count e) ≡ b10 →
    numbered (left_by_tests b6 b7 b8 b9 b10) ≡ lowest_fault (faults_left s e n)
unfolding lowest_fault
left_over s e n b6 b7 b8 b9 b10 e6 e7 e8 e9 e10 = rw (e6, e7, e8, e9, e10) (by_cases b6 b7 b8 b9 b10)
  where
    by_cases :
        (b6 b7 b8 b9 b10 : Bool) →
        numbered (left_by_tests b6 b7 b8 b9 b10)
        ≡ lowest_fault (fault 6 b6 ∷ fault 7 b7 ∷ fault 8 b8 ∷ fault 9 b9 ∷ fault 10 b10 ∷ [])
    by_cases true b7 b8 b9 b10 = refl
    by_cases false true b8 b9 b10 = refl
    by_cases false false true b9 b10 = refl
    by_cases false false false true b10 = refl
    by_cases false false false false true = refl
    by_cases false false false false false = refl

-- The record after those of the shape `s`, once it is read: `own` is what its reader found, or the fault that it shows by itself.
pub record Judged {A : Type 0} (standing : A → Record) (l : Layout) (t : List ℕ) (s : Shape) (own : Result A Fault) : Type 0 where
  pub shown : or_left own (lowest_left (words_of t) s l) ≡ fault_at (words_of t) s l
  pub decoded_is : (a : A) → own ≡ Ok a → l.decoded (drop (words_read s) (words_of t)) ≡ standing a

-- As the code reads it, in the part from the byte `at` on: `last` is the kind of the record before it, and `count` the number of earlier
-- records of its kind.
pub judged :
    {A : Type 0} (standing : A → Record) (l : Layout) (t : List ℕ) (s : Shape) (at : ℕ) (read : Result A RecordFault) {last count : ℕ} (own : Result A Fault) →
    at ≡ 4 * words_read s →
    read_by standing read ≡ read_of l (words_of (take (length t - at) (drop at t))) →
    last ≡ last_kind s →
    count ≡ alike (plan_at (words_of t) s) (l.decoded (drop (words_read s) (words_of t))) →
    own ≡ without_own_fault last l.kind read count l.limit →
    Judged standing l t s own
judged standing l t s at read {last} {count} own a g f c o =
    record {
      shown =
          ap (λ x. or_left x (lowest_left (words_of t) s l))
          (o ∙ (λ i. without_own_fault (f i) l.kind read (c i) l.limit))
          ∙ shown_or_left (reading_at (words_of t) s) l r standing read read_is;
      decoded_is =
          λ b e.
          whole-decoded l r (standing b)
          (sym read_is ∙ ap (read_by standing) (without-is-read last l.kind count l.limit read b (sym o ∙ e)));
    }
  where
    r : List ℕ
    r = drop (words_read s) (words_of t)

    read_is : read_by standing read ≡ read_of l r
    read_is =
        g
        ∙ ap (read_of l)
        (ap (λ (k : ℕ). words_of (take (length t - k) (drop k t))) a ∙ words-from (words_read s) t)

module _ {A : Type 0} {standing : A → Record} {l : Layout} {t : List ℕ} {s : Shape} {own : Result A Fault} (J : Judged standing l t s own) where
  shown_as : {found : Result A Fault} → own ≡ found → or_left found (lowest_left (words_of t) s l) ≡ fault_at (words_of t) s l
  shown_as e = ap (λ x. or_left x (lowest_left (words_of t) s l)) (sym e) ∙ J.shown

  -- Its lowest fault is the one that it shows by itself.
  pub own-fault :
      (found : Fault) → own ≡ Err found →
      (result : Result Unit Fault) → IsErrAnd result (λ fault. fault ≡ found) → numbered result ≡ fault_at (words_of t) s l
  own-fault found e (Err fault) h =
      ap (λ (f : Fault). some (fault_number f)) h
      ∙ shown_as e
  own-fault found e (Ok _) h = absurd h

  -- A record that is whole and shows no fault by itself has the lowest of those left, by their tests.
  pub left-fault :
      (a : A) →
      own ≡ Ok a →
      (b6 b7 b8 b9 b10 : Bool) →
      wrong_end_count (words_read s) (end_count (standing a)) ≡ b6 →
      unknown_name (plan_at (words_of t) s) (standing a) ≡ b7 →
      repeated (plan_at (words_of t) s) (standing a) ≡ b8 →
      wrong_link (plan_at (words_of t) s) (standing a) ≡ b9 →
      words_follow (length (drop (words_read s) (words_of t))) (end_count (standing a)) ≡ b10 →
      numbered (left_by_tests b6 b7 b8 b9 b10) ≡ fault_at (words_of t) s l
  left-fault a e b6 b7 b8 b9 b10 e6 e7 e8 e9 e10 =
      left_over (reading_at (words_of t) s) (standing a) (length (drop (words_read s) (words_of t))) b6 b7 b8 b9 b10 e6 e7 e8 e9 e10
      ∙ ap
      (λ (x : Record). lowest_fault (faults_left (reading_at (words_of t) s) x (length (drop (words_read s) (words_of t)))))
      (sym (J.decoded_is a e))
      ∙ shown_as e

-- 7, by the number of bridges.
pub unknown-ends :
    (ws : List ℕ) (s : Shape) (a b : ℕ) →
    unknown_ends (plan_at ws s) a b ≡ (not (ltb a s.bridges) || not (ltb b s.bridges) || eqb a b)
unknown-ends ws s a b = ap (λ (n : ℕ). not (ltb a n) || not (ltb b n) || eqb a b) (how_many bridge_of 3 0 ws s.bridges)

pub unknown-member :
    (ws : List ℕ) (s : Shape) (m : Member) →
    unknown_name (plan_at ws s) (member m) ≡ (not (ltb m.bridge s.bridges) || not (known_vid (plan_at ws s) m.vid))
unknown-member ws s m =
    ap (λ (n : ℕ). not (ltb m.bridge n) || not (known_vid (plan_at ws s) m.vid)) (how_many bridge_of 3 0 ws s.bridges)

-- 10, by the number of words of the table.
pub words-follow :
    (t : List ℕ) (s : Shape) (b : Bool) →
    ltb (words_read s + 1) (length t / 4) ≡ b →
    ltb 1 (length (drop (words_read s) (words_of t))) ≡ b
words-follow t s b e = go (le_or_gt (length t / 4) (words_read s + 1))
  where
    go : (length t / 4 ≤ words_read s + 1) ⊎ (words_read s + 1 < length t / 4) → ltb 1 (length (drop (words_read s) (words_of t))) ≡ b
    go (inl l) =
        le-ltb 1 (length (drop (words_read s) (words_of t))) (omega (arith, length-drop (words_read s) (words_of t), count_of_words t))
        ∙ sym (le-ltb (words_read s + 1) (length t / 4) l) ∙ e
    go (inr l) =
        lt-ltb 1 (length (drop (words_read s) (words_of t))) (omega (arith, length-drop (words_read s) (words_of t), count_of_words t))
        ∙ sym (lt-ltb (words_read s + 1) (length t / 4) l) ∙ e

-- 7 of traffic, by what its ends and its VID come to.
pub unknown-traffic :
    (ws : List ℕ) (s : Shape) (t : Traffic) (ends known : Bool) →
    unknown_ends (plan_at ws s) t.from t.to ≡ ends →
    known_vid (plan_at ws s) t.vid ≡ known →
    unknown_name (plan_at ws s) (traffic t) ≡ (ends || not known)
unknown-traffic ws s t ends known e f = λ i. e i || not (f i)

-- The bridge numbers and the port of a half-link have 16 bits.
pub of_16_bits : (h : HalfLink) (r : List ℕ) → h ≡ half_link_of r → (h.near < 65536) × (h.port < 65536)
of_16_bits h r e = rw e (omega arith, omega arith)

pub whole-of-16-bits :
    (r : List ℕ) (h : HalfLink) → read_of half_link_layout r ≡ whole (half_link h) → (h.near < 65536) × (h.port < 65536)
whole-of-16-bits r h e = of_16_bits h r (cc (whole-decoded half_link_layout r (half_link h) e))

pub read_of_16_bits :
    {t : List ℕ} {s : Shape} {own : Result table·HalfLink Fault} →
    Judged (λ h. half_link (half_link_values h)) half_link_layout t s own →
    (h : table·HalfLink) → own ≡ Ok h → (h.near < 65536) × (h.port < 65536)
read_of_16_bits {t} {s} J h e = of_16_bits (half_link_values h) (drop (words_read s) (words_of t)) (cc (J.decoded_is h e))

-- The I-SID of a member has 24 bits, its bridge number 16.
pub member-bits : (m : Member) (r : List ℕ) → m ≡ member_of r → (m.isid < 16777216) × (m.bridge < 65536)
member-bits m r e = rw e (omega arith, omega arith)

pub whole-member-bits :
    (r : List ℕ) (m : Member) → read_of member_layout r ≡ whole (member m) → (m.isid < 16777216) × (m.bridge < 65536)
whole-member-bits r m e = member-bits m r (cc (whole-decoded member_layout r (member m) e))

pub read-member-bits :
    {t : List ℕ} {s : Shape} {own : Result table·Member Fault} →
    Judged (λ m. member (member_values m)) member_layout t s own →
    (m : table·Member) → own ≡ Ok m → (m.isid < 16777216) × (m.bridge < 65536)
read-member-bits {t} {s} J m e = member-bits (member_values m) (drop (words_read s) (words_of t)) (cc (J.decoded_is m e))

-- The VID of traffic has 12 bits, its bridge numbers 16.
pub traffic-bits : (t : Traffic) (r : List ℕ) → t ≡ traffic_of r → (t.vid < 4096) × (t.from < 65536) × (t.to < 65536)
traffic-bits t r e = rw e (omega arith, omega arith, omega arith)

pub whole-traffic-bits :
    (r : List ℕ) (t : Traffic) → read_of traffic_layout r ≡ whole (traffic t) → (t.vid < 4096) × (t.from < 65536) × (t.to < 65536)
whole-traffic-bits r t e = traffic-bits t r (cc (whole-decoded traffic_layout r (traffic t) e))

pub read-traffic-bits :
    {t : List ℕ} {s : Shape} {own : Result table·Traffic Fault} →
    Judged (λ r. traffic (traffic_values r)) traffic_layout t s own →
    (r : table·Traffic) → own ≡ Ok r → (r.vid < 4096) × (r.from < 65536) × (r.to < 65536)
read-traffic-bits {t} {s} J r e = traffic-bits (traffic_values r) (drop (words_read s) (words_of t)) (cc (J.decoded_is r e))
