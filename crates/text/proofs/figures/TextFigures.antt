-- Numbers, an address and a line of document 01's listing, as the definitions have them: the checker computes them.
-- Assumes nothing.
use Rattle.std.specs.Prelude.{◌≡◌, refl}
use mathlib.Core.List.{[], ◌∷◌, flat_map}
use Rattle.text.specs.Text.{digits_of, places, decimal_of, address, line, path_word}

-- `0`, and the greatest number of 32 bits.
zero_is : decimal_of 0 ≡ 48 ∷ []
unfolding decimal_of digits_of places
zero_is = refl

greatest_is : decimal_of 4294967295 ≡ 52 ∷ 50 ∷ 57 ∷ 52 ∷ 57 ∷ 54 ∷ 55 ∷ 50 ∷ 57 ∷ 53 ∷ []
unfolding decimal_of digits_of places
greatest_is = refl

-- `020000000002`
address_is : address 0x020000000002 ≡ 48 ∷ 50 ∷ 48 ∷ 48 ∷ 48 ∷ 48 ∷ 48 ∷ 48 ∷ 48 ∷ 48 ∷ 48 ∷ 50 ∷ []
unfolding digits_of
address_is = refl

-- `path 10 0 1 12 1 0 1`
path-line_is : line path_word (10 ∷ 0 ∷ 1 ∷ 12 ∷ 1 ∷ 0 ∷ 1 ∷ []) ≡ 112 ∷ 97 ∷ 116 ∷ 104 ∷ 32 ∷ 49 ∷ 48 ∷ 32 ∷ 48 ∷ 32 ∷ 49 ∷ 32 ∷ 49 ∷ 50 ∷ 32 ∷ 49 ∷ 32 ∷ 48 ∷ 32 ∷ 49 ∷ 10 ∷ []
unfolding decimal_of digits_of places flat_map
path-line_is = refl
