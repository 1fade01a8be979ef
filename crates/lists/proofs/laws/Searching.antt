-- A search among the first `n` numbers, one after the other: what a loop that looks for one that passes a test keeps true. And what
-- one number more adds to those searched. Assumes nothing.
use Rattle.std.specs.Prelude.{ℕ, zero, suc, ◌+◌, ◌-◌, ◌≤◌, ◌<◌, ◌≡◌, refl, List, [], ◌∷◌, ◌++◌, Bool, true, false, ◌||◌}
use native.Mathlib.Omega.{arith}
use Rattle.std.proofs.Common.{sym, ap, ◌∙◌}
use Rattle.lists.specs.Lists.{rising, any_passes}

-- The search has come to `j`: what is left to search has one that passes where the whole has.
pub record Searching (test : ℕ → Bool) (n j : ℕ) : Type 0 where
  pub within : j ≤ n
  pub rest : any_passes test (rising j (n - j)) ≡ any_passes test (rising 0 n)

pub search_starts : (test : ℕ → Bool) (n : ℕ) → Searching test n 0
search_starts test n = record { within = omega arith; rest = ap (λ (k : ℕ). any_passes test (rising 0 k)) (omega arith) }

step : (test : ℕ → Bool) (n j : ℕ) → j < n → any_passes test (rising j (n - j)) ≡ test j || any_passes test (rising (j + 1) (n - (j + 1)))
unfolding any_passes rising
step test n j h = rw (let e : n - j ≡ suc (n - (j + 1)) = omega arith in e, let f : j + 1 ≡ suc j = omega arith in f) refl

module _ {test : ℕ → Bool} {n j : ℕ} (s : Searching test n j) where
  pub search_on : j < n → test j ≡ false → Searching test n (j + 1)
  search_on h e = record { within = omega arith; rest = simp e at (sym (step test n j h)) ∙ s.rest }

  pub search_finds : j < n → test j ≡ true → true ≡ any_passes test (rising 0 n)
  search_finds h e = simp e at (sym (step test n j h)) ∙ s.rest

  pub search_ends : n ≤ j → false ≡ any_passes test (rising 0 n)
  unfolding any_passes rising
  search_ends h = rw (let e : n - j ≡ 0 = omega arith in e) at s.rest

-- One number more.
pub rising-more : (k n : ℕ) → rising k (suc n) ≡ rising k n ++ ((k + n) ∷ [])
unfolding rising
rising-more k zero = ap (λ (m : ℕ). m ∷ []) (omega arith)
rising-more k (suc n) =
    ap (λ (t : List ℕ). k ∷ t) (rising-more (suc k) n ∙ ap (λ (m : ℕ). rising (suc k) n ++ (m ∷ [])) (omega arith))
