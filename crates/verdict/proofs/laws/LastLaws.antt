-- What stands after the records of the kinds 1 to 5: nothing, a record out of its order or of an unknown kind, or the end record.
-- Assumes nothing.
use Rattle.std.specs.Prelude.{ℕ, zero, suc, ◌-◌, ◌≤◌, ◌<◌, ◌≡◌, refl, ◌⊎◌, true, false, Ok, Err}
use Rattle.std.proofs.Common.{arith, sym, ◌∙◌, inl, inr, lt-ltb, eq-eqb}
use Rattle.std.proofs.Math.Path.{ap}
use mathlib.Core.List.{List, []}
use Rattle.std.proofs.Math.Option.{none, some}
use Rattle.std.proofs.Math.ListN.{length, drop}
use Rattle.std.proofs.Math.Seq.{drop-length}
use Rattle.lists.proofs.laws.NumberLaws.{le_or_gt, same_or_not}
use Rattle.rule.specs.declared.answer.RecordKind.{RecordKind}
use Rattle.rule.specs.Words.{word, bits}
use Rattle.rule.specs.declared.refusal.Refusal.{Refusal}
use Rattle.rule.specs.Refusals.{refused_by}
use Rattle.rule.specs.Records.{Layout, layout_of, bridge_layout, half_link_layout, vid_layout, member_layout, traffic_layout, end_layout}
use Rattle.rule.specs.Outcome.{Outcome, answered, refused}
use Rattle.rule.specs.Plan.{Plan}
use Rattle.rule.specs.Check.{kind_concerned, lowest_fault, stops, judged, read_as, read_from, step_of, after, read_on, start}
use Rattle.table.specs.declared.shape.Shape.{Shape}
use Rattle.table.specs.Positions.{half_links_from, vids_from, members_from, traffic_from, words_read, last_kind, plan_at, reading_at}
use Rattle.rule.specs.Refusals.{fault_number}
use Rattle.rule.specs.declared.refusal.Fault.{Fault}
use Rattle.faults.specs.Faults.{numbered, fault_at}
use Rattle.steps.specs.Steps.{refusal_of, step_as}
use Rattle.steps.proofs.laws.StepLaws.{NoneAfter, none_after, kind-concerned}
use Rattle.runs.specs.Runs.{is_kind, records_read, Reached, Before}
use Rattle.runs.proofs.laws.KindLaws.{bridge-kind, half_link-kind, vid-kind, member-kind, traffic-kind, end-kind, unknown-kind, word-there, kind-there, step_by_kind}
use Rattle.runs.proofs.laws.RunLaws.{whole-after}
use Rattle.verdict.specs.Examination.{LowerOnly}

-- A record of a kind whose records were read stands after records of a later kind.
pub lower_only : {ws links : List ℕ} {s : Shape} → Before ws links 6 s → LowerOnly ws s
lower_only {ws} {links} {s} B kind l m e = go (le_or_gt (last_kind s) kind)
  where
    here : (k at : ℕ) → kind ≡ k → words_read s ≡ at → is_kind ws k at ≡ false → ⊥
    here k at f g h =
        let z : true ≡ false = sym e ∙ (λ i. is_kind ws (f i) (g i)) ∙ h
        in let y : ◌≡◌ {A = ℕ} 0 1 = cc
        in omega arith

    ended :
        NoneAfter kind s →
        (kind ≡ 1) ⊎ (kind ≡ 1 → ⊥) → (kind ≡ 2) ⊎ (kind ≡ 2 → ⊥) → (kind ≡ 3) ⊎ (kind ≡ 3 → ⊥) → (kind ≡ 4) ⊎ (kind ≡ 4 → ⊥) →
        ⊥
    ended N (inl f) y z w =
        here 1 (half_links_from s) f
        (omega (arith, N.no_half_links (omega arith), N.no_vids (omega arith), N.no_members (omega arith), N.no_traffic (omega arith)))
        (B.bridges_end (omega arith))
    ended N (inr d) (inl f) z w =
        here 2 (vids_from s) f (omega (arith, N.no_vids (omega arith), N.no_members (omega arith), N.no_traffic (omega arith)))
        (B.half_links_end (omega arith))
    ended N (inr d) (inr g) (inl f) w =
        here 3 (members_from s) f (omega (arith, N.no_members (omega arith), N.no_traffic (omega arith))) (B.vids_end (omega arith))
    ended N (inr d) (inr g) (inr h) (inl f) =
        here 4 (traffic_from s) f (omega (arith, N.no_traffic (omega arith))) (B.members_end (omega arith))
    ended N (inr d) (inr g) (inr h) (inr i) = here 5 (words_read s) (omega arith) refl (B.traffic_end (omega arith))

    go : (last_kind s ≤ kind) ⊎ (kind < last_kind s) → kind < last_kind s
    go (inr h) = h
    go (inl h) = absurd (ended (none_after kind s h) (same_or_not kind 1) (same_or_not kind 2) (same_or_not kind 3) (same_or_not kind 4))

module _ {ws : List ℕ} {s : Shape} (R : Reached ws s) where
  -- "the table ends with no end record".
  pub no_end : (at words : ℕ) → at ≡ words_read s → words ≡ length ws → words ≤ at → refused 3 none words ≡ read_on (length ws) ws start
  unfolding read_on
  no_end at words a w l = ap (λ (n : ℕ). refused 3 none n) w ∙ go (length ws - records_read s) R.rest
    where
      nothing : drop (words_read s) ws ≡ []
      nothing = ap (λ (n : ℕ). drop n ws) (let z : words_read s ≡ length ws = omega (arith, R.within) in z) ∙ drop-length ws

      go : (n : ℕ) → read_on n ws (reading_at ws s) ≡ read_on (length ws) ws start → refused 3 none (length ws) ≡ read_on (length ws) ws start
      go zero e = e
      go (suc n) e = sym (ap (λ (r : List ℕ). after (read_on n ws) (read_from (length ws) (reading_at ws s) r)) nothing) ∙ e

  module _ (l : words_read s < length ws) where
    -- The verdict is known where the step stops.
    stops_with : (o : Outcome Plan) → step_of ws (reading_at ws s) ≡ stops o → o ≡ read_on (length ws) ws start
    stops_with o e = sym (ap (after (read_on (length ws - records_read s - 1) ws)) e) ∙ whole-after R l

    module _ (kind : ℕ) (k : bits (word ws (words_read s)) 31 28 ≡ kind) where
      is_this : is_kind ws kind (words_read s) ≡ true
      is_this = simp (lt-ltb (words_read s) (length ws) l) (eq-eqb (bits (word ws (words_read s)) 31 28) kind k)

      -- A kind that is lower, and one that is unknown.
      lower :
          (row : Layout) →
          layout_of kind ≡ some row →
          row.kind < last_kind s →
          read_as (reading_at ws s) (drop (words_read s) ws) (layout_of kind) ≡ stops (refused 2 none (words_read s))
      unfolding lowest_fault
      lower row g h =
          ap (read_as (reading_at ws s) (drop (words_read s) ws)) g ∙ simp (lt-ltb row.kind (last_kind s) h)

      refused_by_kind :
          LowerOnly ws s →
          (kind ≡ 15 → ⊥) →
          read_as (reading_at ws s) (drop (words_read s) ws) (layout_of kind) ≡ stops (refused 2 none (words_read s))
      refused_by_kind L d =
          go (same_or_not kind 1) (same_or_not kind 2) (same_or_not kind 3) (same_or_not kind 4) (same_or_not kind 5)
        where
          known :
              (n : ℕ) (row : Layout) → kind ≡ n → layout_of n ≡ some row → row.kind ≡ n → 1 ≤ n → n ≤ 5 →
              read_as (reading_at ws s) (drop (words_read s) ws) (layout_of kind) ≡ stops (refused 2 none (words_read s))
          known n row f g h i j =
              lower row (ap layout_of f ∙ g) (omega (arith, L kind (omega arith) (omega arith) is_this))

          go :
              (kind ≡ 1) ⊎ (kind ≡ 1 → ⊥) → (kind ≡ 2) ⊎ (kind ≡ 2 → ⊥) → (kind ≡ 3) ⊎ (kind ≡ 3 → ⊥) → (kind ≡ 4) ⊎ (kind ≡ 4 → ⊥) →
              (kind ≡ 5) ⊎ (kind ≡ 5 → ⊥) →
              read_as (reading_at ws s) (drop (words_read s) ws) (layout_of kind) ≡ stops (refused 2 none (words_read s))
          go (inl f) y z w v = known 1 bridge_layout f bridge-kind refl (omega arith) (omega arith)
          go (inr p) (inl f) z w v = known 2 half_link_layout f half_link-kind refl (omega arith) (omega arith)
          go (inr p) (inr q) (inl f) w v = known 3 vid_layout f vid-kind refl (omega arith) (omega arith)
          go (inr p) (inr q) (inr r) (inl f) v = known 4 member_layout f member-kind refl (omega arith) (omega arith)
          go (inr p) (inr q) (inr r) (inr t) (inl f) = known 5 traffic_layout f traffic-kind refl (omega arith) (omega arith)
          go (inr p) (inr q) (inr r) (inr t) (inr u) =
              ap (read_as (reading_at ws s) (drop (words_read s) ws)) (unknown-kind kind p q r t u d)

    -- 2: "The kind is unknown or lower than that of the record before."
    pub out_of_order :
        LowerOnly ws s → is_kind ws 15 (words_read s) ≡ false → (at : ℕ) → at ≡ words_read s → refused 2 none at ≡ read_on (length ws) ws start
    out_of_order L e at a =
        ap (λ (n : ℕ). refused 2 none n) a
        ∙ stops_with (refused 2 none (words_read s))
        (step_by_kind ws s (bits (word ws (words_read s)) 31 28) l refl
        ∙ refused_by_kind (bits (word ws (words_read s)) 31 28) refl L
        (λ f. let z : true ≡ false = sym (is_this 15 f) ∙ e in let y : ◌≡◌ {A = ℕ} 0 1 = cc in absurd (omega arith)))

  module _ (e : is_kind ws 15 (words_read s) ≡ true) where
    end_step : step_of ws (reading_at ws s) ≡ step_as ws s end_layout
    end_step =
        step_by_kind ws s 15 (word-there ws 15 (words_read s) e) (kind-there ws 15 (words_read s) e)
        ∙ ap (read_as (reading_at ws s) (drop (words_read s) ws)) end-kind

    pub end_refused :
        (f : Fault) → numbered (Err f) ≡ fault_at ws s end_layout → (at : ℕ) → at ≡ words_read s →
        (r : Refusal) → r ≡ refusal_of (fault_number f) RecordKind.End at →
        refused_by r ≡ read_on (length ws) ws start
    end_refused f n at a r g =
        ap (λ (x : Refusal). refused_by x) g
        ∙ (λ i. refused (fault_number f) (kind-concerned (fault_number f) 15 RecordKind.End refl i) (a i))
        ∙ stops_with (word-there ws 15 (words_read s) e) (refused (fault_number f) (kind_concerned (fault_number f) 15) (words_read s))
        (end_step ∙ ap (judged (reading_at ws s) end_layout (drop (words_read s) ws)) (sym n))

    pub end-accepted : numbered (Ok tt) ≡ fault_at ws s end_layout → answered (plan_at ws s) ≡ read_on (length ws) ws start
    end-accepted n =
        stops_with (word-there ws 15 (words_read s) e) (answered (plan_at ws s))
        (end_step ∙ ap (judged (reading_at ws s) end_layout (drop (words_read s) ws)) (sym n))
