-- 01, "Hybrid", in lib.Ieee's account of single floats: `fin s m e` is m × 2 ^ e, negative where s is true.
-- Assumes nothing.
use Rattle.std.specs.Prelude.{ℕ, ◌-◌, ◌*◌, ◌/◌, ◌^◌, Bool, true, false, cond, ℤ, pos, neg_ℤ, Float}
use Rattle.std.specs.Float.{nan, inf, fin, binary32}
use Rattle.std.specs.Float.Ieee.{add, sub, mul, div, of_int, up, down}
use Rattle.counts.specs.Clamp.{clamped}
use Rattle.hybrid.specs.declared.Hybrid.{Hybrid}

-- a number as a float, and the nearest one where it has none of its own; up to 2 ^ 24 every number has
abbrev pub float_of : ℕ → Float
float_of n = of_int binary32 (pos n)

-- "q = ((KP × (pd − p) + KD × (vd − v)) + T) × 1000000 ÷ rated, every operation rounded once in that order"
unfoldable pub quotient_of : Hybrid → ℕ → Float
quotient_of h rated =
    let spring = mul binary32 h.kp (sub binary32 h.pd h.p) in
    let damper = mul binary32 h.kd (sub binary32 h.vd h.v) in
    let torque = add binary32 (add binary32 spring damper) h.t in
    div binary32 (mul binary32 torque (float_of 1000000)) (float_of rated)

-- "if q is not finite"
abbrev pub finite : Float → Bool
finite nan = false
finite (inf s) = false
finite (fin s m e) = true

-- the whole part of q's size: 2 ^ e is the fraction up e / down e. Of what is not finite it is 0.
unfoldable pub size_of : Float → ℕ
size_of nan = 0
size_of (inf s) = 0
size_of (fin s m e) = m * up e / down e

unfoldable pub negative : Float → Bool
negative nan = false
negative (inf s) = s
negative (fin s m e) = s

-- "the demand is q's whole part, towards zero"
unfoldable pub whole_part : Float → ℤ
whole_part q = cond (negative q) (neg_ℤ (pos (size_of q))) (pos (size_of q))

-- z, or the end of the i32 range that it is beyond. It stands in no public promise: a clamp between two i32 cannot tell it from z.
unfoldable pub saturated : ℤ → ℤ
saturated z = clamped z (neg_ℤ (pos (2 ^ 31))) (pos (2 ^ 31 - 1))
