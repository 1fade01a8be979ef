-- What the loop that closes a gap of twelve bytes keeps true. Assumes nothing.
use Rattle.std.specs.Prelude.{ℕ, suc, ◌+◌, ◌-◌, ◌≤◌, ◌<◌, ◌≡◌, refl, List, [], ◌∷◌, ◌++◌, length, get_or, set, take, drop}
use Rattle.std.proofs.Common.{arith, sym, ap, ◌∙◌, subst, length-append, length-drop, length-take-le, take-suc, take_all, get_or-drop}
use Rattle.lists.specs.Lists.{spliced}
use Rattle.lists.specs.Appending.{Appended}
use Rattle.lists.proofs.laws.Splices.{after-spliced}
use Rattle.lists.proofs.laws.AppendingLaws.{appended_nothing, appended-length, next_word}

-- The bytes up to `i` are moved.
pub record Closing (old : List ℕ) (at i : ℕ) (new : List ℕ) : Type 0 where
  pub after : at ≤ i
  pub within : i + 12 ≤ length old
  pub same_length : length new ≡ length old
  pub moved : Appended old at (take (i - at) (drop (at + 12) old)) new i

pub closing_starts : (old : List ℕ) (at : ℕ) → at + 12 ≤ length old → Closing old at at old
closing_starts old at l = record {
  after = omega arith;
  within = l;
  same_length = refl;
  moved = subst (λ (n : ℕ). Appended old at (take n (drop (at + 12) old)) old at) {x = 0} {y = at - at} (omega arith) (appended_nothing old at);
}

module _ {old : List ℕ} {at i : ℕ} {new : List ℕ} (C : Closing old at i new) where
  moved_length : length (take (i - at) (drop (at + 12) old)) ≡ i - at
  moved_length = length-take-le (i - at) (drop (at + 12) old) (omega (arith, C.after, C.within, length-drop (at + 12) old))

  -- What stands behind is as it was.
  still-there : get_or new (i + 12) 0 ≡ get_or old (i + 12) 0
  still-there =
      sym (get_or-drop (i + 12) new 0 0 ∙ ap (λ (n : ℕ). get_or new n 0) {x = i + 12 + 0} {y = i + 12} (omega arith))
      ∙ ap (λ (x : List ℕ). get_or x 0 0) (ap (drop (i + 12)) C.moved.words_are
      ∙ after-spliced old at (take (i - at) (drop (at + 12) old)) (i + 12) (omega (arith, moved_length, C.after)) (omega (arith, C.after, C.within)))
      ∙ get_or-drop (i + 12) old 0 0 ∙ ap (λ (n : ℕ). get_or old n 0) {x = i + 12 + 0} {y = i + 12} (omega arith)

  pub closing_on : i + 12 < length old → Closing old at (i + 1) (set new i (get_or new (i + 12) 0))
  closing_on l = record {
    after = omega (arith, C.after);
    within = omega (arith, l);
    same_length = appended-length appended (omega (arith, length-append (take (i - at) (drop (at + 12) old)) (get_or new (i + 12) 0 ∷ []), moved_length, C.after, l));
    moved = subst (λ (part : List ℕ). Appended old at part (set new i (get_or new (i + 12) 0)) (i + 1)) one_more appended;
  }
    where
      appended : Appended old at (take (i - at) (drop (at + 12) old) ++ (get_or new (i + 12) 0 ∷ [])) (set new i (get_or new (i + 12) 0)) (i + 1)
      appended = next_word (get_or new (i + 12) 0) i C.moved refl (omega (arith, moved_length, C.after, l))

      one_more : take (i - at) (drop (at + 12) old) ++ (get_or new (i + 12) 0 ∷ []) ≡ take (i + 1 - at) (drop (at + 12) old)
      one_more =
          ap (λ (x : ℕ). take (i - at) (drop (at + 12) old) ++ (x ∷ []))
          (still-there ∙ sym (get_or-drop (at + 12) old (i - at) 0 ∙ ap (λ (n : ℕ). get_or old n 0) {x = at + 12 + (i - at)} {y = i + 12} (omega (arith, C.after))))
          ∙ sym (take-suc (drop (at + 12) old) (i - at) 0 (omega (arith, length-drop (at + 12) old, C.after, l)))
          ∙ ap (λ (n : ℕ). take n (drop (at + 12) old)) {x = suc (i - at)} {y = i + 1 - at} (omega (arith, C.after))

  pub closing_ends : length old ≤ i + 12 → new ≡ spliced old at (drop (at + 12) old)
  closing_ends l = C.moved.words_are ∙ ap (spliced old at)
      (take_all (i - at) (drop (at + 12) old) (omega (arith, length-drop (at + 12) old, C.after, l)))
