-- Single floats in ASCII: a pattern or a decimal.
-- Assumes nothing.
use Rattle.std.specs.Prelude.{ℕ, suc, ◌+◌, ◌*◌, ◌^◌, cond, List, [], ◌∷◌, length, take, drop, pos, ◌==◌, from_bits, nat_le, nat_lt, Option, Some, None}
use Rattle.std.specs.Float.Ieee as Ieee
use Rattle.std.specs.Float.{binary32}
use Rattle.std.specs.Float.Ieee.{of_int, div, neg}
use Rattle.scan.specs.Bytes.{index_of}
use Rattle.spelling.specs.Spelling.{spelled_of, decimal_of}

abbrev pub pattern_of : Option ℕ → Option Ieee.Float
pattern_of (Some n) = Some (from_bits binary32 n)
pattern_of None = None

-- after the `x`: "eight hexadecimal digits, its binary32 pattern (every NaN pattern is the one NaN)"
abbrev pub eight_of : List ℕ → Option Ieee.Float
eight_of bs = cond (length bs == 8) (pattern_of (spelled_of 16 8 bs)) None

-- "The digits as a whole number are rounded to the nearest float, divided by the power of ten, and rounded once more"
unfoldable pub quotient_float : ℕ → ℕ → Ieee.Float
quotient_float n power = div binary32 (of_int binary32 (pos n)) (of_int binary32 (pos power))

abbrev pub whole_float : Option ℕ → Option Ieee.Float
whole_float (Some n) = Some (quotient_float n 1)
whole_float None = None

-- the digits before the point and those after it, as one whole number
abbrev pub joined_of : ℕ → Option ℕ → Option ℕ → Option Ieee.Float
joined_of power (Some n) (Some m) = Some (quotient_float (n * power + m) power)
joined_of power (Some n) None = None
joined_of power None m = None

-- 1 to 9 digits
abbrev pub without_point : List ℕ → Option Ieee.Float
without_point bs = cond (nat_le (length bs) 9) (whole_float (decimal_of bs)) None

-- 1 to 9 digits in all, "with at most one point between two of them"
abbrev pub with_point : List ℕ → List ℕ → Option Ieee.Float
with_point before after =
    cond (nat_le (length before + length after) 9) (joined_of (10 ^ length after) (decimal_of before) (decimal_of after)) None

-- cut at its first point, if it has one
unfoldable pub unsigned_of : List ℕ → Option Ieee.Float
unsigned_of bs =
    cond (nat_lt (index_of 46 bs) (length bs)) (with_point (take (index_of 46 bs) bs) (drop (suc (index_of 46 bs)) bs)) (without_point bs)

abbrev pub negated_of : Option Ieee.Float → Option Ieee.Float
negated_of (Some x) = Some (neg x)
negated_of None = None

abbrev pub spelled_float : List ℕ → Option Ieee.Float
spelled_float [] = None
spelled_float (b ∷ bs) = cond (b == 120) (eight_of bs) (cond (b == 45) (negated_of (unsigned_of bs)) (unsigned_of (b ∷ bs)))
