-- The verdict as the code has it: what examining keeps from kind to kind, and what it comes to. Assumes nothing.
use Rattle.std.specs.Prelude.{ℕ, ◌+◌, ◌%◌, ◌≤◌, ◌<◌, ◌≡◌, refl, List, Result, Ok, Err, Bool, true, false, not, ◌||◌, eqb, ltb, length}
use Rattle.std.proofs.Common.{arith, sym, ap, subst, ◌∙◌, ltb-false}
use Rattle.std.proofs.Math.Option.{none}
use Rattle.rule.specs.declared.refusal.Refusal.{Refusal}
use Rattle.rule.specs.Records.{bridge_of, half_link_of, vid_of, member_of, traffic_of}
use Rattle.rule.specs.Words.{words_of}
use Rattle.rule.specs.Outcome.{Outcome, refused, refused_if}
use Rattle.rule.specs.Plan.{Plan}
use Rattle.rule.specs.Check.{longest_table, bad_length, Reading, start, read_on, verdict}
use Rattle.rule.proofs.laws.Accepted.{accepted-laws}
use Rattle.key_index.specs.Index.{Indexed}
use Rattle.table.specs.declared.shape.Shape.{Shape}
use Rattle.table.specs.Positions.{half_links_from, vids_from, members_from, traffic_from, plan_at, reading_at}
use Rattle.table.proofs.laws.PositionLaws.{no_records_lem}
use Rattle.readers.proofs.laws.WordLaws.{count_of_words}
use Rattle.earlier.specs.HalfLinks.{number_key}
use Rattle.earlier.proofs.laws.KeyLaws.{keyed-none}
use Rattle.runs.specs.Runs.{Run, Before, KindRead}
use Rattle.runs.proofs.laws.BeforeLaws.{kind_read}
use Rattle.verdict.specs.Examination.{examined_values, AcceptedAs, AcceptedAfterAll, Passed}

-- A refusal accepts nothing, and an acceptance what it has.
pub refused-passes : {t index : List ℕ} {refusal : Refusal} → Passed t index (Err refusal)
refused-passes s n = let z : ◌≡◌ {A = ℕ} 0 1 = cc in absurd (omega arith)

pub refused_accepts_none : {s : Shape} {refusal : Refusal} → AcceptedAs s (Err refusal)
refused_accepts_none t n = let z : ◌≡◌ {A = ℕ} 0 1 = cc in absurd (omega arith)

pub accepted_as_read : {s : Shape} → AcceptedAs s (Ok s)
accepted_as_read {s} t n = let z : s ≡ t = cc in sym z

-- The kinds before `next` are read.
pub record Examining (ws links : List ℕ) (s : Shape) (next : ℕ) : Type 0 where
  pub first : 1 ≤ next
  pub last : next ≤ 5
  pub before : Before ws links next s

abbrev none_read : Shape
none_read = record { bridges = 0; half_links = 0; vids = 0; members = 0; traffic = 0 }

start_is : (ws : List ℕ) → reading_at ws none_read ≡ start
start_is ws =
    λ i.
    record {
      at = 0;
      last = 0;
      plan =
          record {
            bridges = no_records_lem bridge_of 3 0 ws i;
            half_links = no_records_lem half_link_of 3 (half_links_from none_read) ws i;
            vids = no_records_lem vid_of 1 (vids_from none_read) ws i;
            members = no_records_lem member_of 2 (members_from none_read) ws i;
            traffic = no_records_lem traffic_of 2 (traffic_from none_read) ws i;
          };
    }

pub examining_starts : (ws links : List ℕ) → Indexed links 0 → Examining ws links none_read 1
examining_starts ws links x =
    record {
      first = omega arith;
      last = omega arith;
      before =
          record {
            reached =
                record {
                  rest =
                      ap (λ (n : ℕ). read_on n ws (reading_at ws none_read)) (omega arith)
                      ∙ ap (λ (s : Reading). read_on (length ws) ws s) (start_is ws);
                  within = omega arith;
                  few_vids = omega arith;
                };
            numbers = keyed-none half_link_of 3 number_key links ws (half_links_from none_read) 0 x refl;
            no_bridges = λ _. refl;
            no_half_links = λ _. refl;
            no_vids = λ _. refl;
            no_members = λ _. refl;
            no_traffic = λ _. refl;
            bridges_end = λ h. absurd (omega arith);
            half_links_end = λ h. absurd (omega arith);
            vids_end = λ h. absurd (omega arith);
            members_end = λ h. absurd (omega arith);
            traffic_end = λ h. absurd (omega arith);
          };
    }

pub examining_next :
    {ws links links' : List ℕ} {s : Shape} {next : ℕ} {r : Result Shape Refusal} →
    Examining ws links s next →
    next ≤ 4 →
    KindRead ws links' next r →
    (t : Shape) →
    r ≡ Ok t →
    Examining ws links' t (next + 1)
examining_next x l k t e = record { first = omega arith; last = omega arith; before = k.next t e }

-- 1, and the verdict on a table whose length has no fault.
pub bad_length_lem : (t : List ℕ) (b : Bool) → b ≡ bad_length (length t) → b ≡ true → refused 1 none 0 ≡ verdict t
unfolding verdict
bad_length_lem t b e f = ap (λ (y : Bool). refused_if y 1 (read_on (length (words_of t)) (words_of t) start)) (sym f ∙ e)

pub good_length :
    (t : List ℕ) (b : Bool) (o : Outcome Plan) →
    b ≡ bad_length (length t) →
    b ≡ false →
    o ≡ read_on (length (words_of t)) (words_of t) start →
    o ≡ verdict t
unfolding verdict
good_length t b o e f g = g ∙ ap (λ (y : Bool). refused_if y 1 (read_on (length (words_of t)) (words_of t) start)) (sym f ∙ e)

pub length-fits : (n : ℕ) (b : Bool) → b ≡ bad_length n → b ≡ false → n ≤ longest_table
length-fits n b e f = go (eqb n 0) (ltb longest_table n) (not (eqb (n % 4) 0)) (ltb-false longest_table n) (sym e ∙ f)
  where
    go : (x y z : Bool) → (y ≡ false → n ≤ longest_table) → (x || y || z) ≡ false → n ≤ longest_table
    go true y z h e = let k : ◌≡◌ {A = ℕ} 0 1 = cc in absurd (omega arith)
    go false true z h e = let k : ◌≡◌ {A = ℕ} 0 1 = cc in absurd (omega arith)
    go false false z h e = h refl

pub members-read : {ws links : List ℕ} {s : Shape} {next : ℕ} → Examining ws links s next → 4 < next → Before ws links 5 s
members-read {ws} {links} {s} {next} x l =
    subst (λ (k : ℕ). Before ws links k s) (let z : next ≡ 5 = omega (arith, x.last) in z) x.before

-- The traffic read, all kinds are.
pub traffic-read :
    {ws links : List ℕ} {s : Shape} {r : Result Shape Refusal} →
    Before ws links 5 s →
    Run ws 5 s r →
    (t : Shape) →
    r ≡ Ok t →
    Before ws links 6 t
traffic-read B run = (kind_read B (omega arith) (omega arith) 5 refl run (λ z. absurd (omega arith))).next

-- What the end record accepts are the records before it.
pub accepted-after-all : {ws links : List ℕ} {s : Shape} {r : Result Shape Refusal} → AcceptedAs s r → Before ws links 6 s → AcceptedAfterAll ws links r
accepted-after-all {ws} {links} a B t n = subst (λ (y : Shape). Before ws links 6 y) (sym (a t n)) B

pub refused-after-all : {ws links : List ℕ} {refusal : Refusal} → AcceptedAfterAll ws links (Err refusal)
refused-after-all t n = let z : ◌≡◌ {A = ℕ} 0 1 = cc in absurd (omega arith)

-- A table that the verdict accepts is a checked one.
pub accepted-passes :
    {t index : List ℕ} {r : Result Shape Refusal} →
    examined_values (words_of t) r ≡ verdict t →
    AcceptedAfterAll (words_of t) index r →
    length t ≤ longest_table →
    Passed t index r
accepted-passes {t} {index} {r} v a b s n = (
  record {
    whole = record { within = omega (arith, (a s n).reached.within, count_of_words t); bounded = b };
    laws = accepted-laws t (plan_at (words_of t) s) (sym v ∙ ap (examined_values (words_of t)) n);
  },
  (a s n).numbers,
)
