-- The entry lines of one bridge (01, "Listing program"), by the words of its list. Assumes nothing.
use Rattle.std.specs.Prelude.{ℕ, ◌+◌, ◌*◌, ◌/◌, ◌≤◌, ◌<◌, ◌≡◌, refl, length, take}
use Rattle.std.proofs.Common.{arith, ap, subst, ◌∙◌, length-take, lt-ltb}
use mathlib.Core.List.{List, flat_map}
use Rattle.lists.specs.Appending.{Appended}
use Rattle.rule.specs.Words.{words_of}
use Rattle.rule.specs.Lookup.{entries_in}
use Rattle.rule.proofs.laws.ListBound.{few_words}
use Rattle.rule.specs.Entries.{entry_list_of}
use Rattle.rule.specs.Calls.{plan_entries}
use Rattle.table.specs.declared.shape.Shape.{Shape}
use Rattle.table.specs.Positions.{plan_at}
use Rattle.verdict.specs.Examination.{Checked}
use Rattle.verdict.proofs.laws.CheckedLaws.{bridges-counted}
use Rattle.lists.proofs.laws.AppendingLaws.{front_is}
use Rattle.listing_lines.specs.Listing.{entry_line, entry_lines}

module _ {t : List ℕ} {s : Shape} (R : Checked t s) (b : ℕ) (known : b < s.bridges) {lent written : List ℕ} {count : ℕ}
    (A : Appended lent 0 (entry_list_of (plan_at (words_of t) s) b) written count) where
  -- "No bridge's list exceeds 14,931 words."
  pub few-listed : count ≤ 14931
  few-listed = omega (
    arith,
    A.end_is,
    few_words (plan_at (words_of t) s) R.laws b (omega (arith, bridges-counted R)),
  )

  -- So a line of at most 52 bytes for each 3 words has room in 258,804 bytes.
  pub few_bytes : 0 + 52 * (length (take count written) / 3) ≤ 258804
  few_bytes = omega (arith, few-listed, length-take count written)

  -- The lines of the words written are those of what the entries call answers.
  pub lines_listed : {out out' : List ℕ} {next : ℕ} → Appended out 0 (flat_map (entry_line b) (entries_in (take count written))) out' next
      → Appended out 0 (entry_lines b (plan_entries (plan_at (words_of t) s) b)) out' next
  lines_listed {out} {out'} {next} W = subst (λ (x : List ℕ). Appended out 0 x out' next) same W
    where
      same : flat_map (entry_line b) (entries_in (take count written)) ≡ entry_lines b (plan_entries (plan_at (words_of t) s) b)
      same =
          ap (λ (ws : List ℕ). flat_map (entry_line b) (entries_in ws)) (front_is A)
          ∙ rw (lt-ltb b (length (plan_at (words_of t) s).bridges) (omega (arith, bridges-counted R))) refl
