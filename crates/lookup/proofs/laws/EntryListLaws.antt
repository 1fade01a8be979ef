-- Entry lists from a word on: what is left, from there, has the faults and the matching entries that are still to come.
-- Assumes nothing.
use Rattle.std.specs.Prelude.{ℕ, zero, suc, ◌+◌, ◌-◌, ◌*◌, ◌/◌, ◌%◌, ◌≤◌, ◌<◌, ◌≡◌, ◌⊎◌, Bool, true, false, not, ◌||◌, ◌&&◌, ltb, length, drop}
use Rattle.std.proofs.Common.{arith, sym, subst, eq-eqb, ne_eqb, ◌∙◌, inl, inr, length-drop, lt-ltb, le-ltb}
use Rattle.std.proofs.Math.Path.{refl, ap}
use mathlib.Core.List.{List, [], ◌∷◌, map}
use Rattle.std.proofs.Math.Option.{none, some}
use Rattle.std.proofs.Math.Dec.{eqb}
use Rattle.std.proofs.Math.ListN.{get_elem?}
use Rattle.lists.specs.Lists.{cons_if, selected}
use Rattle.lists.proofs.laws.NumberLaws.{le_or_gt}
use Rattle.rule.specs.Words.{word, bits}
use Rattle.rule.specs.Entries.{Entry}
use Rattle.rule.specs.Lookup.{entries_in, faulty_entry, faulty_list, matching_ports}
use Rattle.entry_codec.proofs.laws.EntryAtLaws.{entry_at, three-words}

abbrev pub faulty_at : List ℕ → ℕ → Bool
faulty_at ws at = faulty_entry (entry_at ws at) (bits (word ws (at + 1)) 31 16)

abbrev pub matches_at : List ℕ → ℕ → ℕ → ℕ → Bool
matches_at ws vid address at = eqb (entry_at ws at).vid vid && eqb (entry_at ws at).address address

-- Faults

faulty_step : (ws : List ℕ) (at : ℕ) → 3 ≤ length ws - at → faulty_list (drop at ws) ≡ (faulty_at ws at || faulty_list (drop (at + 3) ws))
unfolding faulty_list
faulty_step ws at h = ap faulty_list (three-words ws at h)

-- A list of fewer than three words has a length that is no multiple of 3, unless it is empty.
faulty_short : (ws : List ℕ) → length ws < 3 → faulty_list ws ≡ ltb 0 (length ws)
unfolding faulty_list
faulty_short [] h = refl
faulty_short (w ∷ []) h = refl
faulty_short (w ∷ upper ∷ []) h = refl
faulty_short (w ∷ upper ∷ lower ∷ rest) h = absurd (omega arith)

-- No fault before the word `at`: the list has a fault where the rest has one.
pub record Testing (ws : List ℕ) (at : ℕ) : Type 0 where
  pub within : at ≤ length ws
  pub rest : faulty_list (drop at ws) ≡ faulty_list ws

pub testing_starts : (ws : List ℕ) → Testing ws 0
testing_starts ws = record { within = omega arith; rest = refl }

module _ {ws : List ℕ} {at : ℕ} (t : Testing ws at) where
  pub testing_goes_on : 3 ≤ length ws - at → faulty_at ws at ≡ false → Testing ws (at + 3)
  testing_goes_on h e = record { within = omega arith; rest = simp e at (sym (faulty_step ws at h)) ∙ t.rest }

  pub testing_finds : 3 ≤ length ws - at → faulty_at ws at ≡ true → faulty_list ws ≡ true
  testing_finds h e = sym t.rest ∙ simp e at (faulty_step ws at h)

  pub testing_ends : length ws - at < 3 → faulty_list ws ≡ ltb at (length ws)
  testing_ends h = sym t.rest ∙ faulty_short (drop at ws) (omega (arith, length-drop at ws)) ∙ go (le_or_gt (length ws) at)
    where
      go : (length ws ≤ at) ⊎ (at < length ws) → ltb 0 (length (drop at ws)) ≡ ltb at (length ws)
      go (inl k) = le-ltb 0 (length (drop at ws)) (omega (arith, length-drop at ws)) ∙ sym (le-ltb _ _ k)
      go (inr k) = lt-ltb 0 (length (drop at ws)) (omega (arith, length-drop at ws)) ∙ sym (lt-ltb _ _ k)

module _ {ws : List ℕ} {at next : ℕ} (t : Testing ws at) where
  -- The same where the word after the entry has another name.
  pub testing_on : 3 ≤ length ws - at → faulty_at ws at ≡ false → at + 3 ≡ next → Testing ws next
  testing_on h e m = subst (λ (k : ℕ). Testing ws k) m (testing_goes_on t h e)

-- All whole entries are passed: "a length that is no multiple of 3" is the fault that can be left.
pub testing_over : {ws : List ℕ} {at : ℕ} → Testing ws at → at ≡ 3 * (length ws / 3) → faulty_list ws ≡ not (eqb (length ws % 3) 0)
testing_over {ws} {at} t m = testing_ends t (omega (arith, m)) ∙ go (le_or_gt (length ws) at)
  where
    go : (length ws ≤ at) ⊎ (at < length ws) → ltb at (length ws) ≡ not (eqb (length ws % 3) 0)
    go (inl k) = le-ltb at (length ws) k ∙ sym (ap not (eq-eqb (length ws % 3) 0 (omega (arith, k, m))))
    go (inr k) = lt-ltb at (length ws) k ∙ sym (ap not (ne_eqb (length ws % 3) 0 (λ z. absurd (omega (arith, k, m, z)))))

-- Matching entries

module _ (vid address : ℕ) where
  ports-after : (e : Entry) (es : List Entry) → map (λ (x : Entry). x.port) (cons_if (eqb e.vid vid && eqb e.address address) e es)
      ≡ cons_if (eqb e.vid vid && eqb e.address address) e.port (map (λ (x : Entry). x.port) es)
  ports-after e es = go (eqb e.vid vid && eqb e.address address)
    where
      go : (b : Bool) → map (λ (x : Entry). x.port) (cons_if b e es) ≡ cons_if b e.port (map (λ (x : Entry). x.port) es)
      go true = refl
      go false = refl

  ports-step : (ws : List ℕ) (at : ℕ) → 3 ≤ length ws - at
      → matching_ports (drop at ws) vid address
      ≡ cons_if (matches_at ws vid address at) (entry_at ws at).port (matching_ports (drop (at + 3) ws) vid address)
  unfolding matching_ports entries_in selected
  ports-step ws at h =
      ap (λ (t : List ℕ). matching_ports t vid address) (three-words ws at h)
      ∙ ports-after (entry_at ws at) (selected (λ e. eqb e.vid vid && eqb e.address address) (entries_in (drop (at + 3) ws)))

  ports-short : (ws : List ℕ) → length ws < 3 → matching_ports ws vid address ≡ []
  unfolding matching_ports entries_in selected
  ports-short [] h = refl
  ports-short (w ∷ []) h = refl
  ports-short (w ∷ upper ∷ []) h = refl
  ports-short (w ∷ upper ∷ lower ∷ rest) h = absurd (omega arith)

-- The matching entry `n` of the list is the matching entry `left` of the rest from the word `at` on.
pub record Looking (ws : List ℕ) (vid address n at left : ℕ) : Type 0 where
  pub within : at ≤ length ws
  pub rest : get_elem? (matching_ports (drop at ws) vid address) left ≡ get_elem? (matching_ports ws vid address) n

pub looking_starts : (ws : List ℕ) (vid address n : ℕ) → Looking ws vid address n 0 n
looking_starts ws vid address n = record { within = omega arith; rest = refl }

module _ {ws : List ℕ} {vid address n at left : ℕ} (k : Looking ws vid address n at left) where
  pub looking_passes : 3 ≤ length ws - at → matches_at ws vid address at ≡ false → Looking ws vid address n (at + 3) left
  looking_passes h e = record {
    within = omega arith;
    rest = ap (λ (t : List ℕ). get_elem? t left) (sym (simp e at (ports-step vid address ws at h))) ∙ k.rest;
  }

  pub looking_counts : 3 ≤ length ws - at → matches_at ws vid address at ≡ true → 0 < left → Looking ws vid address n (at + 3) (left - 1)
  looking_counts h e l = record {
    within = omega arith;
    rest = counted left l ∙ ap (λ (t : List ℕ). get_elem? t left) (sym (simp e at (ports-step vid address ws at h))) ∙ k.rest;
  }
    where
      counted : (m : ℕ) → 0 < m → get_elem? (matching_ports (drop (at + 3) ws) vid address) (m - 1)
          ≡ get_elem? ((entry_at ws at).port ∷ matching_ports (drop (at + 3) ws) vid address) m
      counted zero l = absurd (omega arith)
      counted (suc m) l = ap (get_elem? (matching_ports (drop (at + 3) ws) vid address)) (omega arith)

  pub looking_finds : 3 ≤ length ws - at → matches_at ws vid address at ≡ true → left ≡ 0
      → get_elem? (matching_ports ws vid address) n ≡ some (entry_at ws at).port
  looking_finds h e z =
      sym k.rest ∙ ap (get_elem? (matching_ports (drop at ws) vid address)) z
      ∙ ap (λ (t : List ℕ). get_elem? t 0) (simp e at (ports-step vid address ws at h))

  pub looking_ends : length ws - at < 3 → get_elem? (matching_ports ws vid address) n ≡ none
  looking_ends h =
      sym k.rest ∙ ap (λ (t : List ℕ). get_elem? t left) (ports-short vid address (drop at ws) (omega (arith, length-drop at ws)))

module _ {ws : List ℕ} {vid address n at left next : ℕ} where
  pub looking_moved : at ≡ next → Looking ws vid address n at left → Looking ws vid address n next left
  looking_moved m k = subst (λ (w : ℕ). Looking ws vid address n w left) m k
