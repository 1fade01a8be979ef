-- What holds where the end record of an accepted table is read, with that record: the law `accepted-ends` of `rule` with the end record's own
-- row, count and faults, for what holds only of records that are no end record. Assumes nothing.
use Prim.Native.Nat.{ℕ, zero, suc}
use Rattle.std.specs.Prelude.{◌≡◌, List, [], ◌∷◌, Bool, length, drop}
use Rattle.std.proofs.Math.Path.{refl}
use Rattle.std.proofs.Math.Option.{Option, none, some}
use Rattle.std.proofs.Math.Bool.{true, false, cond}
use Rattle.lists.specs.Members.{In}
use Rattle.rule.specs.Words.{words_of, bits}
use Rattle.rule.specs.Records.{end_count, Layout, layouts, layout_of}
use Rattle.rule.specs.Outcome.{Outcome, answered, refused_as}
use Rattle.rule.specs.Plan.{Plan}
use Rattle.rule.specs.Check.{bad_length, Reading, start, faults, lowest_fault, taken, judged, read_as, read_from, after, read_on, verdict}
use Rattle.rule.proofs.laws.CallLaws.{refused-not-answered}
use Rattle.rule.proofs.laws.Accepted.{HasKind, row_listed, row-kind, read_one}

-- Where the end record is read: its row and its count; no fault applies to it.
pub record EndRead (ws : List ℕ) (s : Reading) : Type 0 where
  pub row : Layout
  pub count : ℕ
  pub listed : In row layouts
  pub kind : HasKind row (drop s.at ws)
  pub counted : end_count (row.decoded (drop s.at ws)) ≡ some count
  pub faultless : lowest_fault (faults s row (drop s.at ws)) ≡ none

-- What holds where the reading of the words `ws` stands, and still holds after each record without a fault that is no end record, holds
-- where the end record is read.
module _ (ws : List ℕ) (Holds : Reading → Type 0)
    (keeps :
    (s : Reading) (l : Layout) →
    In l layouts →
    HasKind l (drop s.at ws) →
    lowest_fault (faults s l (drop s.at ws)) ≡ none →
    end_count (l.decoded (drop s.at ws)) ≡ none →
    Holds s →
    Holds (read_one s l (drop s.at ws))) where
  abbrev Ends : Plan → Type 0
  Ends p = (s : Reading) × Holds s × EndRead ws s × (s.plan ≡ p)

  module _ (p : Plan) (next : Reading → Outcome Plan) (on : (s : Reading) → Holds s → next s ≡ answered p → Ends p) (s : Reading) (H : Holds s) where
    taken-ends : (l : Layout) (c : Option ℕ) → (c ≡ none → Holds (read_one s l (drop s.at ws))) → ((n : ℕ) → c ≡ some n → EndRead ws s)
        → after next (taken s l (l.decoded (drop s.at ws)) c) ≡ answered p → Ends p
    taken-ends l none K E h = on (read_one s l (drop s.at ws)) (K refl) h
    taken-ends l (some n) K E h = (s, H, E n refl, cc)

    judged-ends : (l : Layout) → In l layouts → HasKind l (drop s.at ws) → (f : Option ℕ)
        → (f ≡ none → lowest_fault (faults s l (drop s.at ws)) ≡ none) → after next (judged s l (drop s.at ws) f) ≡ answered p → Ends p
    judged-ends l i k none F h = taken-ends l (end_count (l.decoded (drop s.at ws))) (λ c. keeps s l i k (F refl) c H)
        (λ n c. record { row = l; count = n; listed = i; kind = k; counted = c; faultless = F refl }) h
    judged-ends l i k (some f) F h = absurd (refused-not-answered h)

    row_ends : (o : Option Layout) → ((l : Layout) → o ≡ some l → In l layouts × HasKind l (drop s.at ws))
        → after next (read_as s (drop s.at ws) o) ≡ answered p → Ends p
    row_ends none i h = absurd (refused-not-answered h)
    row_ends (some l) i h = judged-ends l (i l refl).0 (i l refl).1 (lowest_fault (faults s l (drop s.at ws))) (λ f. f) h

    step-ends : (total : ℕ) (r : List ℕ) → drop s.at ws ≡ r → after next (read_from total s r) ≡ answered p → Ends p
    step-ends total [] e h = absurd (refused-not-answered h)
    step-ends total (w ∷ r) e h = row_ends (layout_of (bits w 31 28)) (λ l k. (row_listed (bits w 31 28) l k, rw e (row-kind (bits w 31 28) l k)))
        (rw e h)

  reading-ends : (p : Plan) (n : ℕ) (s : Reading) → Holds s → read_on n ws s ≡ answered p → Ends p
  unfolding read_on
  reading-ends p zero s H e = absurd (refused-not-answered e)
  reading-ends p (suc n) s H e = step-ends p (read_on n ws) (reading-ends p n) s H (length ws) (drop s.at ws) refl e

  pub accepted-ends-read : (t : List ℕ) (p : Plan) → ws ≡ words_of t → Holds start → verdict t ≡ answered p → Ends p
  unfolding verdict
  accepted-ends-read t p f H e = go (bad_length (length t)) e
    where
      go : (b : Bool) → cond b (refused_as 1) (read_on (length (words_of t)) (words_of t) start) ≡ answered p → Ends p
      go true e = absurd (refused-not-answered e)
      go false e = reading-ends p (length ws) start H (rw f e)
