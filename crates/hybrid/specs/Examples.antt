-- Floats at the ends of their range, as one table that the checker evaluates. No answer shows these: its torque is clamped, and a q that
-- is not finite ends in a fault. What an answer does show of hybrid stands in demands/specs/Examples.antt.
-- Assumes nothing.
use Rattle.std.specs.Prelude.{◌≡◌, ◌-◌, ◌*◌, ◌^◌, Bool, true, false, List, [], ◌∷◌, pos, negsuc, refl}
use Rattle.std.specs.Float.{nan, inf, fin, binary32}
use Rattle.std.specs.Float.Ieee.{of_bits, sub, mul, div, of_int}
use Rattle.counts.specs.Tests.{same, all}
use Rattle.hybrid.specs.declared.Hybrid.{Hybrid}
use Rattle.hybrid.specs.Hybrid.{quotient_of, finite, size_of, negative, whole_part}

unfoldable pub table : List Bool
table =
    -- the largest float is finite; its whole part is 2^104 times 2^24 − 1
    finite (of_bits binary32 0x7f7f_ffff)
    ∷ same (whole_part (of_bits binary32 0xff7f_ffff)) (negsuc ((2 ^ 24 - 1) * 2 ^ 104 - 1))
    -- an infinity and a NaN have none
    ∷ same (whole_part (inf false)) (pos 0)
    ∷ same (whole_part nan) (pos 0)
    ∷ []

holds : all table ≡ true
unfolding table size_of negative whole_part of_bits
holds = refl

-- T 2^−149, the smallest float, alone
abbrev least : Hybrid
least =
    record {
      kp = of_bits binary32 0;
      kd = of_bits binary32 0;
      pd = of_bits binary32 0;
      vd = of_bits binary32 0;
      t = of_bits binary32 1;
      p = of_bits binary32 0;
      v = of_bits binary32 0;
    }

-- of it, rated 1, q is 1000000 × 2^−149, still subnormal
smallest : quotient_of least 1 ≡ fin false 15625 (negsuc 142)
unfolding quotient_of of_bits sub mul div of_int
smallest = refl
