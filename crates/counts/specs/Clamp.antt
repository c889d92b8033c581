-- A number held between two bounds.
-- Assumes nothing.
use Rattle.std.specs.Prelude.{cond, ℤ}
use Rattle.std.specs.Int.Signed.{lt_z}

unfoldable pub clamped : ℤ → ℤ → ℤ → ℤ
clamped x low high = cond (lt_z x low) low (cond (lt_z high x) high x)
