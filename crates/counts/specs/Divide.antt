-- Division "rounded towards minus infinity".
-- Assumes nothing.
use Rattle.std.specs.Prelude.{ℕ, ◌/◌, ℤ, pos, negsuc}

-- `negsuc n` is −(n + 1), so its quotient is −(n / d + 1)
unfoldable pub floor_div : ℤ → ℕ → ℤ
floor_div (pos n) d = pos (n / d)
floor_div (negsuc n) d = negsuc (n / d)
