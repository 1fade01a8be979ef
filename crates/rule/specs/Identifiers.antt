-- ECT masks and masked identifiers (01, "The chosen path"; 02, A6).
-- Assumes nothing.
use Rattle.std.specs.Prelude.{ℕ, zero, suc, ◌+◌, ◌*◌, ◌-◌, ◌/◌, ◌%◌, ◌^◌, List, [], ◌∷◌, get_or}
use Rattle.std.specs.Int.Bits.{bit_xor}
use Rattle.rule.specs.Words.{bits}
use Rattle.rule.specs.Plan.{Plan, bridge_at}

-- "ECT masks, index 1 to 16, hexadecimal".
abbrev pub masks : List ℕ
masks =
    0x00
    ∷ 0xff
    ∷ 0x88
    ∷ 0x77
    ∷ 0x44
    ∷ 0x33
    ∷ 0xcc
    ∷ 0xbb
    ∷ 0x22
    ∷ 0x11
    ∷ 0x66
    ∷ 0x55
    ∷ 0xaa
    ∷ 0x99
    ∷ 0xdd
    ∷ 0xee
    ∷ []

abbrev pub mask_of : ℕ → ℕ
mask_of index = get_or masks (index - 1) 0

-- The lowest `n` bytes of an identifier, each XORed with the mask.
unfoldable pub masked_bytes : ℕ → ℕ → ℕ → ℕ
masked_bytes zero mask i = 0
masked_bytes (suc n) mask i = masked_bytes n mask (i / 256) * 256 + bit_xor (i % 256) mask

-- "Each of the eight bytes of a Bridge Identifier is XORed with the mask of the VID's index."
unfoldable pub masked_identifier : ℕ → ℕ → ℕ
masked_identifier index i = masked_bytes 8 (mask_of index) i

-- A Bridge Identifier with its "12-bit system id extension inside the 16 priority bits" cleared (02, A6): bits 59..48, with 4 bits of priority
-- above them and the 48 bits of address below.
abbrev pub without_extension : ℕ → ℕ
without_extension i = bits i 63 60 * 2 ^ 60 + bits i 47 0

-- The key of each bridge for an ECT index: what stands for it in the masked PATHID. "Masking begins from the identifier with those 12 bits
-- cleared." (02, A6)
abbrev pub key_of : Plan → ℕ → ℕ → ℕ
key_of p index u = masked_identifier index (without_extension (bridge_at p u).identifier)
