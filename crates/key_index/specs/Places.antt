-- The last place up to a number whose test passes. Places count from 1: the place `suc i` is tested by `i`. 0 is none.
-- Assumes nothing.
use Rattle.std.specs.Prelude.{ℕ, zero, suc, Bool, cond}

unfoldable pub last_place : (ℕ → Bool) → ℕ → ℕ
last_place test zero = 0
last_place test (suc n) = cond (test n) (suc n) (last_place test n)
