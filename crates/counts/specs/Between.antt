-- Whether a number lies between two bounds, both included.
-- Assumes nothing.
use Rattle.std.specs.Prelude.{ℕ, Bool, ◌&&◌, leb}

abbrev pub between : ℕ → ℕ → ℕ → Bool
between low high n = leb low n && leb n high
