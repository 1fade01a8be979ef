-- When an entry is faulty, test by test in the order of the code.
-- Assumes nothing.
use Rattle.std.specs.Prelude.{ℕ, ◌+◌, ◌<◌, ◌≡◌, ◌⊎◌, Bool, true, false, not, ◌||◌, eqb}
use Rattle.std.proofs.Common.{arith, inl, inr, eq-eqb, ne_eqb}
use Rattle.std.proofs.Math.Bool.{or-true, or-false}
use Rattle.lists.proofs.laws.NumberLaws.{same_or_not}
use Rattle.rule.specs.Records.{in_limits, vid_limits, port_limits, group_bit}
use Rattle.rule.specs.Entries.{Entry}
use Rattle.rule.specs.Lookup.{faulty_entry}

-- A kind other than 8 and 9 agrees with neither group bit.
kind_by_group-bit : (kind bit : ℕ) → bit < 2 → (not (eqb kind 8 || eqb kind 9) || not (eqb (8 + bit) kind)) ≡ not (eqb (8 + bit) kind)
kind_by_group-bit kind bit l = go (same_or_not kind 8) (same_or_not kind 9)
  where
    go : (kind ≡ 8) ⊎ (kind ≡ 8 → ⊥) → (kind ≡ 9) ⊎ (kind ≡ 9 → ⊥)
        → (not (eqb kind 8 || eqb kind 9) || not (eqb (8 + bit) kind)) ≡ not (eqb (8 + bit) kind)
    go (inl h) k = simp (eq-eqb _ _ h)
    go (inr h) (inl k) = simp (ne_eqb _ _ h, eq-eqb _ _ k)
    go (inr h) (inr k) = let n : (8 + bit ≡ kind → ⊥) = (λ f. omega arith) in simp (ne_eqb _ _ h, ne_eqb _ _ k, ne_eqb _ _ n)

module _ (e : Entry) (zero_bits : ℕ) where
  -- `b` is what testing the value `v` gave.
  pub vid_outside : (b : Bool) (v : ℕ) → b ≡ in_limits vid_limits v → v ≡ e.vid → b ≡ false → faulty_entry e zero_bits ≡ true
  vid_outside b v f g h = let k : in_limits vid_limits e.vid ≡ false = rw (← g, ← f) h in simp (k, or-true)

  pub port_outside : (b : Bool) (v : ℕ) → b ≡ in_limits port_limits v → v ≡ e.port → b ≡ false → faulty_entry e zero_bits ≡ true
  port_outside b v f g h = let k : in_limits port_limits e.port ≡ false = rw (← g, ← f) h in simp (k, or-true)

  pub zero-bit-set : (zero_bits ≡ 0 → ⊥) → faulty_entry e zero_bits ≡ true
  zero-bit-set h = simp (ne_eqb _ _ h, or-true)

  -- With none of these the group bit and the kind decide.
  pub by_group-bit : (b d : Bool) (v p : ℕ) → b ≡ in_limits vid_limits v → v ≡ e.vid → b ≡ true
      → d ≡ in_limits port_limits p → p ≡ e.port → d ≡ true → zero_bits ≡ 0
      → (bit kind : ℕ) → bit ≡ group_bit e.address → kind ≡ e.kind → faulty_entry e zero_bits ≡ not (eqb (8 + bit) kind)
  by_group-bit b d v p f g h i j k z bit kind m n =
      let vid : in_limits vid_limits e.vid ≡ true = rw (← g, ← f) h in
      let port : in_limits port_limits e.port ≡ true = rw (← j, ← i) k in
      rw (m, n) (simp (vid, port, eq-eqb _ _ z, or-false) (kind_by_group-bit e.kind (group_bit e.address) (omega arith)))
