-- Laws of single floats: the numbers in q's formula, and the tests for finite ones.
-- Assumes nothing.
use Rattle.std.proofs.Common.{◌≡◌, ℕ, ◌^◌, ◌≤◌, true, false, not, T, pos, sym, refl, subst}
use lib.Ieee.{Float, nan, inf, fin, binary32, of_bits, of_int, neg, lt, is_nan}
use lib.Ieee.Back.{round_whole}
use lib.Ieee.Exact.{HasValue}
use Rattle.hybrid.specs.Hybrid.{float_of, finite, size_of, negative, whole_part}

-- every number up to 2 ^ 24 is a float of its own: the divisor is the rated torque itself, for all that settings may hold
pub float-exact : (n : ℕ) → n ≤ 2 ^ 24 → HasValue (float_of n) false n 1
unfolding of_int
float-exact n h = round_whole binary32 false n h

-- the constant in the code is 1000000
pub million : of_bits binary32 0x4974_2400 ≡ float_of 1000000
unfolding of_bits of_int
million = refl

-- the two tests of `is_finite`
pub below-infinity : (q : Float) → lt q (of_bits binary32 0x7f80_0000) ≡ true → lt (neg (of_bits binary32 0x7f80_0000)) q ≡ finite q
unfolding of_bits lt neg
below-infinity nan t = refl
below-infinity (inf true) t = refl
below-infinity (inf false) t = absurd (subst T (sym t) tt)
below-infinity (fin s m e) t = refl

pub not-below-infinity : (q : Float) → lt q (of_bits binary32 0x7f80_0000) ≡ false → false ≡ finite q
unfolding of_bits lt
not-below-infinity nan t = refl
not-below-infinity (inf s) t = refl
not-below-infinity (fin s m e) t = sym t

pub no_nan : (q : Float) → finite q ≡ true → T (not (is_nan q))
unfolding is_nan
no_nan nan t = absurd (subst T (sym t) tt)
no_nan (inf s) t = tt
no_nan (fin s m e) t = tt

pub not_finite : (q : Float) → finite q ≡ false → whole_part q ≡ pos 0
unfolding whole_part size_of negative
not_finite nan t = refl
not_finite (inf true) t = refl
not_finite (inf false) t = refl
not_finite (fin s m e) t = absurd (subst T t tt)
