-- Two words read as signed, in 64 bits: their sum and their difference fit, also as the machine reads them.
-- Assumes nothing.
use mir.Facts.{to_z-of_z}
use mir.Syntax.{w32, w64}
use mir.Val.{SFits, to_z, of_z}
use lib.IntN.{ℤ, ◌+ℤ◌, ◌-ℤ◌}
use Prim.Native.Nat.{◌^◌}
use native.Mathlib.Omega.{arith}
use Rattle.counts.proofs.Integers.{widen, wide, read_wide, mag-add, sub-fits}

pub cast_fits : {z : ℤ} → SFits w32 z → SFits w64 (to_z w32 (of_z w32 z))
cast_fits h = rw (to_z-of_z h) (widen h)

pub add-fits : {a b : ℤ} → SFits w32 a → SFits w32 b → SFits w64 (a +ℤ b)
add-fits {a} {b} h k = record { sfits = mag-add a b (2 ^ 63) (omega (arith, h.sfits, k.sfits)) }

pub add-read-fits : {a b : ℤ} → SFits w32 a → SFits w32 b → SFits w64 (wide a +ℤ wide b)
add-read-fits h k = rw (read_wide h, read_wide k) (add-fits h k)

pub sub-read-fits : {a b : ℤ} → SFits w32 a → SFits w32 b → SFits w64 (wide a -ℤ wide b)
sub-read-fits h k = rw (read_wide h, read_wide k) (sub-fits h k)
