-- The mask of an ECT index spread over the bytes of an identifier.
-- Assumes nothing.
use Rattle.std.specs.Prelude.{ℕ, zero, suc, ◌+◌, ◌*◌}

-- The mask in each of the lowest `n` bytes.
unfoldable pub spread : ℕ → ℕ → ℕ
spread zero mask = 0
spread (suc n) mask = spread n mask * 256 + mask
