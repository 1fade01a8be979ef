-- The mask spread over the bytes of an identifier: one XOR of all bytes is the XOR of each.
-- Assumes nothing.
use Rattle.std.specs.Prelude.{ℕ, zero, suc, ◌+◌, ◌*◌, ◌/◌, ◌%◌, ◌<◌, ◌≡◌, refl}
use Rattle.std.proofs.Common.{arith, ap, ◌∙◌}
use Rattle.std.specs.Int.Bits.{bit_xor}
use Rattle.std.proofs.lemmas.Nat.{xor_block}
use Rattle.rule.specs.Identifiers.{mask_of, masked_bytes, masked_identifier}
use Rattle.ect.specs.Masks.{spread}

-- The numbers of `n` bytes are those below this.
unfoldable pub numbers_of : ℕ → ℕ
numbers_of zero = 1
numbers_of (suc n) = numbers_of n * 256

pub spread-masks : (n mask i : ℕ) → mask < 256 → i < numbers_of n → bit_xor i (spread n mask) ≡ masked_bytes n mask i
unfolding spread numbers_of masked_bytes
spread-masks zero mask i m h = let e : i ≡ 0 = omega arith in ap (λ (k : ℕ). bit_xor k 0) e
spread-masks (suc n) mask i m h =
    ap (λ (k : ℕ). bit_xor k (spread n mask * 256 + mask)) whole
    ∙ xor_block 8 (i / 256) (spread n mask) (i % 256) mask (omega arith) m
    ∙ ap (λ (k : ℕ). k * 256 + bit_xor (i % 256) mask) (spread-masks n mask (i / 256) m (omega arith))
  where
    whole : i ≡ i / 256 * 256 + i % 256
    whole = omega arith

-- The eight bytes of an identifier.
pub eight_bytes : (mask i : ℕ) → mask < 256 → i < 18446744073709551616 → bit_xor i (spread 8 mask) ≡ masked_bytes 8 mask i
unfolding numbers_of
eight_bytes mask i m h = spread-masks 8 mask i m h

-- With the mask of an index they make the masked identifier.
pub masked_by_index : (index i : ℕ) → masked_bytes 8 (mask_of index) i ≡ masked_identifier index i
unfolding masked_identifier
masked_by_index index i = refl
