-- Whole numbers in ASCII, under a limit.
-- Assumes nothing.
use Rattle.std.specs.Prelude.{ℕ, ◌^◌, cond, List, ltb, Option, Some, None}
use Rattle.spelling.specs.Spelling.{decimal_of}

-- a number, if it lies below a limit
abbrev pub below_of : ℕ → Option ℕ → Option ℕ
below_of limit (Some n) = cond (ltb n limit) (Some n) None
below_of limit None = None

-- "1 to 10 decimal digits with no sign, below 2^32"
abbrev pub unsigned32_of : List ℕ → Option ℕ
unsigned32_of bs = below_of (2 ^ 32) (decimal_of bs)

-- LENGTH, 0 to 32
abbrev pub length_of : List ℕ → Option ℕ
length_of bs = below_of 33 (decimal_of bs)
