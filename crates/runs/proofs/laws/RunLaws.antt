-- Laws of reading the records of a kind one after the other. Assumes nothing.
use Rattle.std.specs.Prelude.{ℕ, suc, ◌+◌, ◌-◌, ◌≤◌, ◌<◌, ◌≡◌, refl, List, Result, Ok, Err, true, false, length, drop}
use Rattle.std.proofs.Common.{arith, sym, ap, subst, ◌∙◌}
use Rattle.std.proofs.Math.Option.{some}
use Rattle.rule.specs.declared.refusal.Refusal.{Refusal}
use Rattle.rule.specs.Records.{Layout, layout_of}
use Rattle.rule.specs.Words.{words_of}
use Rattle.rule.specs.Check.{longest_table, ReadingStep, read_as, step_of, after, read_on, start}
use Rattle.table.specs.declared.shape.Shape.{Shape}
use Rattle.table.specs.Positions.{vids_from, words_read, reading_at}
use Rattle.table.specs.Whole.{Whole}
use Rattle.readers.proofs.laws.WordLaws.{count_of_words}
use Rattle.earlier.specs.Keys.{VidIndex}
use Rattle.steps.specs.Steps.{with_traffic, step_values, step_as, Stepped}
use Rattle.runs.specs.Runs.{is_kind, records_read, Reached, SameOthers, Run, Numbers, NumbersKept}
use Rattle.runs.proofs.laws.KindLaws.{word-there, kind-there, step_by_kind}

pub whole-at : {t : List ℕ} {s : Shape} → Reached (words_of t) s → length t ≤ longest_table → Whole t s
whole-at {t} {s} R b = record { within = omega (arith, R.within, count_of_words t); bounded = b }

-- Each record has a word or more.
fuel_left : (ws : List ℕ) (s : Shape) → words_read s < length ws → length ws - records_read s ≡ suc (length ws - records_read s - 1)
fuel_left ws s l = omega arith

-- What the step at `s` comes to is what the whole table comes to.
pub whole-after :
    {ws : List ℕ} {s : Shape} →
    Reached ws s →
    words_read s < length ws →
    after (read_on (length ws - records_read s - 1) ws) (step_of ws (reading_at ws s)) ≡ read_on (length ws) ws start
unfolding read_on
whole-after {ws} {s} R l = sym (ap (λ (n : ℕ). read_on n ws (reading_at ws s)) (fuel_left ws s l)) ∙ R.rest

-- A record taken leaves fewer words to read.
pub fewer-words :
    {ws : List ℕ} {next : Shape} {rule : ReadingStep} {r : Result Shape Refusal} →
    Stepped ws next rule r →
    (t u : Shape) →
    r ≡ Ok u →
    words_read t < words_read next →
    length ws - words_read u < length ws - words_read t
fewer-words h t u n l = omega (arith, h.within u n, ap (λ (x : Shape). words_read x) (h.is_next u n))

pub numbers-at : {ws links : List ℕ} {t : Shape} → Numbers ws links t → NumbersKept ws links (Ok t)
numbers-at {ws} {links} {t} x u n = let z : t ≡ u = cc in subst (λ (y : Shape). Numbers ws links y) z x

-- A traffic record taken leaves the VIDs, and their index, what they were.
pub vids-still :
    {ws vids : List ℕ} {rule : ReadingStep} {r : Result Shape Refusal} (t : Shape) →
    Stepped ws (with_traffic t) rule r →
    VidIndex vids ws (vids_from t) t.vids →
    (u : Shape) →
    r ≡ Ok u →
    VidIndex vids ws (vids_from u) u.vids
vids-still {ws} {vids} t h x u n = subst (λ (y : Shape). VidIndex vids ws (vids_from y) y.vids) (sym (h.is_next u n)) x

-- A run of records of the kind has come to `t`.
pub record Running (ws : List ℕ) (kind : ℕ) (s t : Shape) : Type 0 where
  pub reached : Reached ws t
  pub others : SameOthers kind s t

pub running_starts : {ws : List ℕ} {kind : ℕ} {s : Shape} → Reached ws s → Running ws kind s s
running_starts R =
    record {
      reached = R;
      others = record { bridges = λ _. refl; half_links = λ _. refl; vids = λ _. refl; members = λ _. refl; traffic = λ _. refl };
    }

module _ {ws : List ℕ} {kind : ℕ} {s t : Shape} (R : Running ws kind s t) where
  -- No record of the kind follows.
  pub run_ends : is_kind ws kind (words_read t) ≡ false → Run ws kind s (Ok t)
  run_ends e =
      record {
        reached = λ u n. let z : t ≡ u = cc in subst (λ (y : Shape). Reached ws y) z R.reached;
        ended = λ u n. let z : t ≡ u = cc in subst (λ (y : Shape). is_kind ws kind (words_read y) ≡ false) z e;
        others = λ u n. let z : t ≡ u = cc in subst (λ (y : Shape). SameOthers kind s y) z R.others;
        refuses = λ refusal n. let z : ◌≡◌ {A = ℕ} 0 1 = cc in absurd (omega arith);
      }

  module _
      (e : is_kind ws kind (words_read t) ≡ true) (l : Layout) (f : layout_of kind ≡ some l) {next : Shape} {r : Result Shape Refusal}
      (h : Stepped ws next (step_as ws t l) r) where
    comes_to_lem : after (read_on (length ws - records_read t - 1) ws) (step_values ws r) ≡ read_on (length ws) ws start
    comes_to_lem =
        ap (after (read_on (length ws - records_read t - 1) ws))
        (h.value
        ∙ ap (read_as (reading_at ws t) (drop (words_read t) ws)) (sym f)
        ∙ sym (step_by_kind ws t kind (word-there ws kind (words_read t) e) (kind-there ws kind (words_read t) e)))
        ∙ whole-after R.reached (word-there ws kind (words_read t) e)

    pub run_goes_on : (u : Shape) → r ≡ Ok u → records_read next ≡ records_read t + 1 → SameOthers kind t next → next.vids ≤ 16 → Running ws kind s u
    run_goes_on u n c o few = subst (λ (y : Shape). Running ws kind s y) (sym (h.is_next u n)) (
        record {
          reached =
              record {
                rest =
                    ap (λ (k : ℕ). read_on k ws (reading_at ws next)) (omega arith)
                    ∙ sym (ap (λ (y : Result Shape Refusal). after (read_on (length ws - records_read t - 1) ws) (step_values ws y)) (n ∙ ap Ok (h.is_next u n)))
                    ∙ comes_to_lem;
                within = subst (λ (y : Shape). words_read y ≤ length ws) (h.is_next u n) (h.within u n);
                few_vids = few;
              };
          others =
              record {
                bridges = λ d. o.bridges d ∙ R.others.bridges d;
                half_links = λ d. o.half_links d ∙ R.others.half_links d;
                vids = λ d. o.vids d ∙ R.others.vids d;
                members = λ d. o.members d ∙ R.others.members d;
                traffic = λ d. o.traffic d ∙ R.others.traffic d;
              };
        }
        )

    pub run_refuses : (refusal : Refusal) → r ≡ Err refusal → Run ws kind s (Err refusal)
    run_refuses refusal n =
        record {
          reached = λ u m. let z : ◌≡◌ {A = ℕ} 0 1 = cc in absurd (omega arith);
          ended = λ u m. let z : ◌≡◌ {A = ℕ} 0 1 = cc in absurd (omega arith);
          others = λ u m. let z : ◌≡◌ {A = ℕ} 0 1 = cc in absurd (omega arith);
          refuses = λ again m.
              sym (ap (λ (y : Result Shape Refusal). after (read_on (length ws - records_read t - 1) ws) (step_values ws y)) (n ∙ m)) ∙ comes_to_lem;
        }
