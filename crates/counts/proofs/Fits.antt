-- A number fits 28 or 32 bits, b saying which, exactly where its magnitude does.
-- Assumes nothing.
use Prim.Native.Nat.{ℕ, ◌-◌, ◌^◌, ◌<◌}
use mathlib.Core.Path.{◌≡◌, refl}
use mathlib.Core.Bool.{Bool, true, false, cond, ◌&&◌, false≢true}
use native.Mathlib.Omega.{arith}
use borrow.Author.Tests.{lt-ltb, ltb-true, le-leb, leb-true}
use lib.Dec.{ltb}
use lib.IntN.{ℤ, pos, negsuc}
use lib.Signed.{mag}
use mir.Syntax.{w32}
use mir.Val.{SFits}
use Rattle.counts.specs.Fits.{fits}

abbrev pub bits : Bool → ℕ
bits b = cond b 28 32

pub mag-fits : (b : Bool) (z : ℤ) → mag z < 2 ^ (bits b - 1) → fits (bits b) z ≡ true
unfolding fits
mag-fits true (pos n) h = rw (lt-ltb n (2 ^ 27) h)
mag-fits true (negsuc n) h = rw (le-leb n (2 ^ 27 - 1) (omega arith))
mag-fits false (pos n) h = rw (lt-ltb n (2 ^ 31) h)
mag-fits false (negsuc n) h = rw (le-leb n (2 ^ 31 - 1) (omega arith))

left : (a c : Bool) → a && c ≡ true → a ≡ true
left true c e = refl
left false c e = absurd (false≢true e)

pub fits-mag : (b : Bool) (z : ℤ) → fits (bits b) z ≡ true → mag z < 2 ^ (bits b - 1)
unfolding fits
fits-mag true (pos n) e = ltb-true n (2 ^ 27) (left (ltb n (2 ^ 27)) true e)
fits-mag true (negsuc n) e = omega (arith, leb-true n (2 ^ 27 - 1) e)
fits-mag false (pos n) e = ltb-true n (2 ^ 31) (left (ltb n (2 ^ 31)) true e)
fits-mag false (negsuc n) e = omega (arith, leb-true n (2 ^ 31 - 1) e)

-- 28 bits need no more than 32
pub fits_wider : (b : Bool) (z : ℤ) → fits (bits b) z ≡ true → fits 32 z ≡ true
fits_wider true z e = mag-fits false z (omega (arith, fits-mag true z e))
fits_wider false z e = e

-- a number of the machine's 32 bits does
pub i32-fits : {z : ℤ} → SFits w32 z → fits 32 z ≡ true
i32-fits {z} h = mag-fits false z h.sfits

pub fits-i32 : (z : ℤ) → fits 32 z ≡ true → SFits w32 z
fits-i32 z e = record { sfits = fits-mag false z e }
