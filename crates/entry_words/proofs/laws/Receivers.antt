-- The loop that notes the port behind which each receiver is: what one member adds, and the room for all of them.
-- Assumes nothing.
use Rattle.std.specs.Prelude.{ℕ, ◌+◌, ◌≤◌, ◌<◌, ◌≡◌, List, [], ◌∷◌, Bool, not, eqb, get_or, set}
use native.Mathlib.Omega.{arith}
use Rattle.std.proofs.Common.{sym, ◌∙◌, eq-eqb, ne_eqb}
use Rattle.std.proofs.Math.Path.{ap}
use Rattle.std.proofs.Math.Bool.{true, false, cond}
use Rattle.std.proofs.Math.ListN.{length}
use Rattle.lists.specs.Lists.{rising}
use Rattle.lists.proofs.laws.SelectedLaws.{length-rising}
use Rattle.lists.proofs.laws.SumLaws.{length-flat_map-most}
use Rattle.lists.specs.Appending.{Appended, Room}
use Rattle.lists.proofs.laws.AppendingLaws.{appended_nothing, one_word}
use Rattle.rule.specs.Words.{words_of}
use Rattle.rule.specs.Records.{Member, bridge_of, member_of}
use Rattle.rule.specs.Entries.{receives}
use Rattle.table.specs.declared.shape.Shape.{Shape}
use Rattle.table.specs.Positions.{members_from, plan_at}
use Rattle.table.proofs.laws.PositionLaws.{how_many, record-in}
use Rattle.table.specs.Numbered.{member_number}
use Rattle.verdict.specs.Examination.{Checked}
use Rattle.entry_words.specs.Words.{behind_at, ports_behind}

-- "another bridge with R in the same I-SID and VID", test by test.
module _ (m r : Member) where
  pub not_receiving : r.receives ≡ false → false ≡ receives m r
  not_receiving e = rw e

  pub other-isid : r.receives ≡ true → (r.isid ≡ m.isid → ⊥) → false ≡ receives m r
  other-isid e n = rw (e, ne_eqb r.isid m.isid n)

  pub other-vid : r.receives ≡ true → r.isid ≡ m.isid → (r.vid ≡ m.vid → ⊥) → false ≡ receives m r
  other-vid e i n = rw (e, eq-eqb r.isid m.isid i, ne_eqb r.vid m.vid n)

  pub same_service : r.receives ≡ true → r.isid ≡ m.isid → r.vid ≡ m.vid → receives m r ≡ not (eqb r.bridge m.bridge)
  same_service e i v = rw (e, eq-eqb r.isid m.isid i, eq-eqb r.vid m.vid v)

module _ {t : List ℕ} {s : Shape} (R : Checked t s) where
  bridges_are : length (plan_at (words_of t) s).bridges ≡ s.bridges
  bridges_are = how_many bridge_of 3 0 (words_of t) s.bridges

  members_are : length (plan_at (words_of t) s).members ≡ s.members
  members_are = how_many member_of 2 (members_from s) (words_of t) s.members

  -- A member's bridge is one of the table.
  pub member-bridge : (j : ℕ) → j < s.members → (member_number (words_of t) s j).bridge < s.bridges
  member-bridge j l = omega (
    arith,
    (R.laws.members.fits (member_number (words_of t) s j) (record-in member_of 2 (members_from s) (words_of t) s.members j l)).bridge_known,
    bridges_are,
  )

  at_most_one : (row : List ℕ) (m : Member) (j : ℕ) → length (behind_at (words_of t) s row m j) ≤ 1
  unfolding behind_at
  at_most_one row m j = go (receives m (member_number (words_of t) s j))
    where
      go : (b : Bool) → length (cond b (get_or row (member_number (words_of t) s j).bridge 0 ∷ []) []) ≤ 1
      go true = omega arith
      go false = omega arith

  -- There are at most 64 receivers.
  pub behind-room : (row : List ℕ) (m : Member) (lent : List ℕ) → 64 ≤ length lent → Room lent 0 (ports_behind (words_of t) s row m)
  unfolding ports_behind
  behind-room row m lent l = omega (
    arith,
    length-flat_map-most (behind_at (words_of t) s row m) 1 (rising 0 s.members) (λ j k. at_most_one row m j),
    length-rising 0 s.members,
    members_are,
    R.laws.members.few,
  )

  pub behind-few : (row : List ℕ) (m : Member) {lent behind : List ℕ} {count : ℕ} → Appended lent 0 (ports_behind (words_of t) s row m) behind count
      → count ≤ 64
  unfolding ports_behind
  behind-few row m A = omega (
    arith,
    A.end_is,
    length-flat_map-most (behind_at (words_of t) s row m) 1 (rising 0 s.members) (λ j k. at_most_one row m j),
    length-rising 0 s.members,
    members_are,
    R.laws.members.few,
  )

-- What the member `j`, read as `r`, adds.
module _ (ws : List ℕ) (s : Shape) (row : List ℕ) (m : Member) (j : ℕ) (r : Member) (e : r ≡ member_number ws s j) where
  by_test : (b : Bool) → b ≡ receives m r → behind_at ws s row m j ≡ cond b (get_or row r.bridge 0 ∷ []) []
  unfolding behind_at
  by_test b f =
      ap (λ (x : Member). cond (receives m x) (get_or row x.bridge 0 ∷ []) []) (sym e)
      ∙ ap (λ (c : Bool). cond c (get_or row r.bridge 0 ∷ []) []) (sym f)

  pub not_noted : false ≡ receives m r → (lent : List ℕ) (at : ℕ) → Appended lent at (behind_at ws s row m j) lent at
  not_noted f lent at = rw (by_test false f) (appended_nothing lent at)

  pub noted-room : true ≡ receives m r → (lent : List ℕ) (at : ℕ) → Room lent at (behind_at ws s row m j) → at < length lent
  noted-room f lent at l = omega (arith, ap (λ (t : List ℕ). length t) (by_test true f))

  pub noted : true ≡ receives m r → (lent : List ℕ) (at : ℕ) → at < length lent
      → Appended lent at (behind_at ws s row m j) (set lent at (get_or row r.bridge 0)) (at + 1)
  noted f lent at l = rw (by_test true f) (one_word lent at (get_or row r.bridge 0) l)
