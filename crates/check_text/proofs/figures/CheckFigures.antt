-- One line of each answer of the check, as the definitions have them: the checker computes them.
-- Assumes nothing.
use Rattle.std.specs.Prelude.{◌≡◌, refl}
use mathlib.Core.List.{[], ◌∷◌, flat_map}
use Rattle.std.proofs.Math.Option.{none, some}
use Rattle.rule.specs.Outcome.{answered, refused}
use Rattle.text.specs.Text.{digits_of, places, decimal_of}
use Rattle.check_text.specs.CheckText.{check_text}

-- `counts 2 2 1 1 2`
counts-line_is : check_text (answered (record { bridges = 2; half_links = 2; usable_links = 1; vids = 1; members = 2 })) ≡ 99 ∷ 111 ∷ 117 ∷ 110 ∷ 116 ∷ 115 ∷ 32 ∷ 50 ∷ 32 ∷ 50 ∷ 32 ∷ 49 ∷ 32 ∷ 49 ∷ 32 ∷ 50 ∷ 10 ∷ []
unfolding decimal_of digits_of places flat_map
counts-line_is = refl

-- `refused 5 1 192`
refused-line_is : check_text (refused 5 (some 1) 192) ≡ 114 ∷ 101 ∷ 102 ∷ 117 ∷ 115 ∷ 101 ∷ 100 ∷ 32 ∷ 53 ∷ 32 ∷ 49 ∷ 32 ∷ 49 ∷ 57 ∷ 50 ∷ 10 ∷ []
unfolding decimal_of digits_of places flat_map
refused-line_is = refl

-- `refused 1 none 0`
length-line_is : check_text (refused 1 none 0) ≡ 114 ∷ 101 ∷ 102 ∷ 117 ∷ 115 ∷ 101 ∷ 100 ∷ 32 ∷ 49 ∷ 32 ∷ 110 ∷ 111 ∷ 110 ∷ 101 ∷ 32 ∷ 48 ∷ 10 ∷ []
unfolding decimal_of digits_of places flat_map
length-line_is = refl
