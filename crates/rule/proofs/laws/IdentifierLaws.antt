-- Masked identifiers (01, "The chosen path"; 02, A6): XOR with one mask tells bytes apart, and clearing the extension leaves the address, so
-- bridges with different addresses have different keys under every index. Assumes nothing.
use Rattle.std.specs.Prelude.{ℕ, zero, suc, ◌+◌, ◌*◌, ◌-◌, ◌/◌, ◌%◌, ◌^◌, ◌≤◌, ◌<◌, ◌≡◌, refl, map, ◌⊎◌, not, ltb, get_or}
use Rattle.std.proofs.Common.{arith, pow-suc, div-one, mul_comm, sym, ap, ◌∙◌, inl, inr, ltb→lt}
use Rattle.std.proofs.Math.Nat.{one-le-pow, div-div-eq-div-mul}
use Rattle.std.specs.Int.Bits.{bit_xor, differ, xor_step}
use Rattle.std.proofs.lemmas.Nat.{xor_lt}
use Rattle.std.proofs.Math.Arith.{mod-mul, digits_div}
use Rattle.std.proofs.Math.Pow.{mod-mod-pow}
use Rattle.std.proofs.Math.ListN.{get_or-eq_default}
use Rattle.lists.specs.Lists.{rising, any_passes}
use Rattle.graph.specs.Graph.{KeyLaws}
use Rattle.lists.proofs.laws.NumberLaws.{le_or_gt, passes}
use Rattle.lists.proofs.laws.SelectedLaws.{in-any}
use Rattle.lists.proofs.laws.DistinctLaws.{place_in}
use Rattle.rule.specs.Words.{bits}
use Rattle.rule.specs.Plan.{Plan, bridge_at}
use Rattle.rule.specs.Links.{graph_of}
use Rattle.rule.specs.Identifiers.{masks, mask_of, masked_bytes, masked_identifier, without_extension, key_of}
use Rattle.rule.specs.PlanLaws.{PlanLaws}
use Rattle.rule.proofs.laws.OneRecord.{one_address}

-- One digit: the XOR of two binary digits is 0 where they are equal, 1 where they are not.
differ-says : (x y : ℕ) → x < 2 → y < 2 → ((x ≡ y) × (differ x y ≡ 0)) ⊎ ((x + y ≡ 1) × (differ x y ≡ 1))
differ-says zero zero h k = inl (refl, refl)
differ-says zero (suc zero) h k = inr (refl, refl)
differ-says (suc zero) zero h k = inr (refl, refl)
differ-says (suc zero) (suc zero) h k = inl (refl, refl)
differ-says zero (suc (suc y)) h k = absurd (omega arith)
differ-says (suc zero) (suc (suc y)) h k = absurd (omega arith)
differ-says (suc (suc x)) y h k = absurd (omega arith)

digit-apart : (x y m : ℕ) → x < 2 → y < 2 → m < 2 → (differ x m < 2) × (differ y m < 2) × (differ x m ≡ differ y m → x ≡ y)
digit-apart x y m h k l = go (differ-says x m h l) (differ-says y m k l)
  where
    go : ((x ≡ m) × (differ x m ≡ 0)) ⊎ ((x + m ≡ 1) × (differ x m ≡ 1)) → ((y ≡ m) × (differ y m ≡ 0)) ⊎ ((y + m ≡ 1) × (differ y m ≡ 1))
        → (differ x m < 2) × (differ y m < 2) × (differ x m ≡ differ y m → x ≡ y)
    go (inl a) (inl b) = omega arith
    go (inl a) (inr b) = omega arith
    go (inr a) (inl b) = omega arith
    go (inr a) (inr b) = omega arith

-- "XORed with the mask": numbers of `k` binary digits whose XOR with one mask is the same are equal.
xor_apart : (k x y m : ℕ) → x < 2 ^ k → y < 2 ^ k → bit_xor x m ≡ bit_xor y m → x ≡ y
xor_apart zero x y m h l e = omega arith
xor_apart (suc k) x y m h l e =
    let D = digit-apart (x % 2) (y % 2) (m % 2) (omega arith) (omega arith) (omega arith) in
    let s : bit_xor (x / 2) (m / 2) * 2 + differ (x % 2) (m % 2) ≡ bit_xor (y / 2) (m / 2) * 2 + differ (y % 2) (m % 2) = sym (xor_step x m) ∙ e
    ∙ xor_step y m in
    let f : bit_xor (x / 2) (m / 2) ≡ bit_xor (y / 2) (m / 2) = halves (bit_xor (x / 2) (m / 2)) (bit_xor (y / 2) (m / 2)) (differ (x % 2) (m % 2))
    (differ (y % 2) (m % 2)) D.0 D.1 s in
    let g : differ (x % 2) (m % 2) ≡ differ (y % 2) (m % 2) = rests (bit_xor (x / 2) (m / 2)) (bit_xor (y / 2) (m / 2)) (differ (x % 2) (m % 2))
    (differ (y % 2) (m % 2)) D.0 D.1 s in
    let i : x / 2 ≡ y / 2 = xor_apart k (x / 2) (y / 2) (m / 2) (omega arith) (omega arith) f in
    let j : x % 2 ≡ y % 2 = D.2 g in
    omega arith
  where
    halves : (a b c d : ℕ) → c < 2 → d < 2 → a * 2 + c ≡ b * 2 + d → a ≡ b
    halves a b c d h l e = omega arith

    rests : (a b c d : ℕ) → c < 2 → d < 2 → a * 2 + c ≡ b * 2 + d → c ≡ d
    rests a b c d h l e = omega arith

-- "Each of the eight bytes .. is XORed with the mask": numbers whose lowest `n` bytes come out the same agree in those bytes.
masked_same : (n m i j : ℕ) → m < 256 → masked_bytes n m i ≡ masked_bytes n m j → i % 256 ^ n ≡ j % 256 ^ n
unfolding masked_bytes
masked_same zero m i j l e = omega arith
masked_same (suc n) m i j l e = rw pow-suc
    (mod-mul i positive (omega arith) ∙ low (masked_same n m (i / 256) (j / 256) l s.0) ∙ sym (mod-mul j positive (omega arith)))
  where
    positive : 0 < 256 ^ n
    positive = one-le-pow n 256 (omega arith)

    parts : (a b c d : ℕ) → c < 256 → d < 256 → a * 256 + c ≡ b * 256 + d → (a ≡ b) × (c ≡ d)
    parts a b c d h k e = omega arith

    s : (masked_bytes n m (i / 256) ≡ masked_bytes n m (j / 256)) × (bit_xor (i % 256) m ≡ bit_xor (j % 256) m)
    s = parts (masked_bytes n m (i / 256)) (masked_bytes n m (j / 256)) (bit_xor (i % 256) m) (bit_xor (j % 256) m)
        (xor_lt 8 (i % 256) m (omega arith) l) (xor_lt 8 (j % 256) m (omega arith) l) e

    low : i / 256 % 256 ^ n ≡ j / 256 % 256 ^ n → i / 256 % 256 ^ n * 256 + i % 256 ≡ j / 256 % 256 ^ n * 256 + j % 256
    low f = cc (f, xor_apart 8 (i % 256) (j % 256) m (omega arith) (omega arith) s.1)

-- "ECT masks, index 1 to 16": the masks in the order of their indexes.
pub masks_by_index : map mask_of (rising 1 16) ≡ masks
unfolding rising
masks_by_index = refl

-- Every mask is a byte.
mask_is_byte : (n : ℕ) → get_or masks n 0 < 256
unfolding any_passes
mask_is_byte n = go (le_or_gt 16 n)
  where
    go : (16 ≤ n) ⊎ (n < 16) → get_or masks n 0 < 256
    go (inl h) = omega (arith, get_or-eq_default masks 0 h)
    go (inr h) = ltb→lt (get_or masks n 0) 256
        (passes (ltb (get_or masks n 0) 256) (in-any (λ m. not (ltb m 256)) (get_or masks n 0) masks (place_in masks n 0 h)))

-- "Each of the eight bytes of a Bridge Identifier is XORed with the mask": the byte `k`, counted from the lowest.
masked_byte : (n k m i : ℕ) → m < 256 → k < n → masked_bytes n m i / 256 ^ k % 256 ≡ bit_xor (i / 256 ^ k % 256) m
unfolding masked_bytes
masked_byte zero k m i l h = absurd (omega arith)
masked_byte (suc n) zero m i l h =
    lowest (masked_bytes n m (i / 256)) (bit_xor (i % 256) m) (xor_lt 8 (i % 256) m (omega arith) l)
    ∙ ap (λ (j : ℕ). bit_xor (j % 256) m) (sym (div-one i))
  where
    lowest : (a x : ℕ) → x < 256 → (a * 256 + x) / 1 % 256 ≡ x
    lowest a x h = omega arith
masked_byte (suc n) (suc k) m i l h =
    ap (λ (j : ℕ). j % 256) (higher (masked_bytes n m (i / 256) * 256 + bit_xor (i % 256) m)
    ∙ ap (λ (j : ℕ). j / 256 ^ k) (digits_div (masked_bytes n m (i / 256)) (xor_lt 8 (i % 256) m (omega arith) l)))
    ∙ masked_byte n k m (i / 256) l (omega arith)
    ∙ ap (λ (j : ℕ). bit_xor (j % 256) m) (sym (higher i))
  where
    higher : (j : ℕ) → j / 256 ^ suc k ≡ j / 256 / 256 ^ k
    higher j = ap (λ (b : ℕ). j / b) (pow-suc 256 k ∙ mul_comm (256 ^ k) 256) ∙ sym (div-div-eq-div-mul j 256 (256 ^ k))

pub each_byte_masked : (index k i : ℕ) → k < 8 → masked_identifier index i / 256 ^ k % 256 ≡ bit_xor (i / 256 ^ k % 256) (mask_of index)
unfolding masked_identifier
each_byte_masked index k i h = masked_byte 8 k (mask_of index) i (mask_is_byte (index - 1)) h

-- Masked identifiers of different addresses differ: the address is the lowest 48 of the 64 bits.
masked_address : (index i j : ℕ) → masked_identifier index i ≡ masked_identifier index j → i % 2 ^ 48 ≡ j % 2 ^ 48
unfolding masked_identifier
masked_address index i j e =
    let f : i % 2 ^ (16 + 48) ≡ j % 2 ^ (16 + 48) = masked_same 8 (mask_of index) i j (mask_is_byte (index - 1)) e in
    sym (mod-mod-pow i 16 48) ∙ ap (λ (n : ℕ). n % 2 ^ 48) f ∙ mod-mod-pow j 16 48

-- "the identifier with those 12 bits cleared" (02, A6): the address is untouched, and so are the 4 bits above the extension; its 12 bits are
-- zero.
pub address-untouched : (i : ℕ) → without_extension i % 2 ^ 48 ≡ i % 2 ^ 48
address-untouched i = omega arith

pub top-bits-untouched : (i : ℕ) → bits (without_extension i) 63 60 ≡ bits i 63 60
top-bits-untouched i = omega arith

pub extension_cleared : (i : ℕ) → bits (without_extension i) 59 48 ≡ 0
extension_cleared i = omega arith

module _ (p : Plan) (L : PlanLaws p) where
  -- Every key of an accepted plan meets what the laws of chosen paths ask.
  pub key_laws : (index : ℕ) → KeyLaws (graph_of p) (key_of p index)
  key_laws index = record {
    distinct = λ u v h k e.
        let i = (bridge_at p u).identifier in
        let j = (bridge_at p v).identifier in
        one_address p L u v h k
        (sym (address-untouched i) ∙ masked_address index (without_extension i) (without_extension j) e ∙ address-untouched j);
  }
