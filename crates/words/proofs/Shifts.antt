-- Two shifts read a number's low bits as signed: up, so that the highest of these bits is the sign, and down again with the sign.
-- Assumes nothing.
use Prim.Native.Nat.{ℕ, ◌*◌, ◌%◌, ◌^◌}
use mathlib.Core.Path.{◌≡◌, ap}
use mathlib.Core.Bool.{true}
use native.Mathlib.Omega.{arith}
use borrow.Author.Tests.{lt-ltb, le-ltb}
use lib.IntN.{ℤ, pos, negsuc}
use lib.Signed.{shr_z, mag_shr}
use mir.Syntax.{w32}
use mir.Val.{SFits, to_z}
use Rattle.counts.specs.Wrap.{signed}
use Rattle.words.proofs.Bits.{signed_is}

-- by 4 places of 32: the low 28 bits
pub shifted : (n : ℕ) → shr_z (to_z w32 (n * 2 ^ 4 % 2 ^ 32)) (2 ^ 4) ≡ signed 28 (n % 2 ^ 28)
shifted n =
    signed_is (λ z. shr_z (to_z w32 (n * 2 ^ 4 % 2 ^ 32)) (2 ^ 4) ≡ z) true (n % 2 ^ 28) (omega arith)
    (λ h. simp (lt-ltb (n * 2 ^ 4 % 2 ^ 32) (2 ^ 31) (omega arith)) (ap pos (omega arith)))
    (λ h. simp (le-ltb (n * 2 ^ 4 % 2 ^ 32) (2 ^ 31) (omega arith)) (ap negsuc (omega arith)))

-- what is shifted down fits all the more
pub down-fits : (z : ℤ) (m : ℕ) → SFits w32 z → SFits w32 (shr_z z m)
down-fits z m h = record { sfits = omega (arith, mag_shr z m, h.sfits) }
