-- An index of keys in a list of 1,536 numbers: for each of 512 remainders the last place whose key has it; then the keys; then for
-- each place the last place before it whose key has the same remainder. Assumes nothing.
use Rattle.std.specs.Prelude.{ℕ, zero, suc, ◌+◌, ◌*◌, ◌/◌, ◌%◌, ◌≤◌, ◌<◌, ◌≡◌, List, Bool, not, ◌&&◌, cond, eqb, length, get_or}
use Rattle.key_index.specs.Places.{last_place}

-- A step of a key's upper half counts as eight of its lower half, so that the first few ports of many bridges, and the many ports
-- of one, fall to different chains.
abbrev pub remainder : ℕ → ℕ
remainder key = (key / 65536 * 8 + key % 65536) % 512

-- The key of the place `suc i`.
abbrev pub key_at : List ℕ → ℕ → ℕ
key_at s i = get_or s (512 + i) 0

abbrev pub holds : List ℕ → ℕ → ℕ → Bool
holds s key i = eqb (key_at s i) key

abbrev pub has_remainder : List ℕ → ℕ → ℕ → Bool
has_remainder s r i = eqb (remainder (key_at s i)) r

-- The list `s` is an index of `n` keys.
pub record Indexed (s : List ℕ) (n : ℕ) : Type 0 where
  pub size : length s ≡ 1536
  pub few : n ≤ 512
  pub last : (r : ℕ) → r < 512 → get_or s r 0 ≡ last_place (has_remainder s r) n
  pub earlier : (i : ℕ) → i < n → get_or s (1024 + i) 0 ≡ last_place (has_remainder s (remainder (key_at s i))) i

-- The place is none, or it is one of `n` and its key has the remainder of `key`.
pub record InChain (s : List ℕ) (n place key : ℕ) : Type 0 where
  pub within : place ≤ n
  pub same : (i : ℕ) → place ≡ suc i → remainder (key_at s i) ≡ remainder key

-- The key has been entered after `n` others.
pub record Entered (s t : List ℕ) (n key : ℕ) : Type 0 where
  pub indexed : Indexed t (n + 1)
  pub new : key_at t n ≡ key
  pub kept : (i : ℕ) → i < n → key_at t i ≡ key_at s i

-- The last place before `place` that holds the same key.
abbrev pub earlier_place : List ℕ → ℕ → ℕ
earlier_place s zero = 0
earlier_place s (suc i) = last_place (holds s (key_at s i)) i

-- Another of `n` places that holds the key which `place` holds: the last before it, or where there is none the last of all others.
abbrev pub other_place : List ℕ → ℕ → ℕ → ℕ
other_place s n zero = 0
other_place s n (suc i) =
    cond (eqb (earlier_place s (suc i)) 0) (last_place (λ k. holds s (key_at s i) k && not (eqb k i)) n) (earlier_place s (suc i))
