-- A number by its sign: `mag z` is n for n and for −(n + 1).
-- Assumes nothing.
use mathlib.Core.Path.{◌≡◌, refl, sym, subst}
use mathlib.Core.Bool.{true, false}
use native.Mathlib.Omega.{arith}
use borrow.Author.Tests.{leb-false}
use lib.Dec.{T}
use lib.IntN.{ℤ, pos, negsuc}
use lib.Signed.{mag, le_z}

pub not_negative : (z : ℤ) → le_z (pos 0) z ≡ true → z ≡ pos (mag z)
not_negative (pos n) t = refl
not_negative (negsuc n) t = absurd (subst T (sym t) tt)

pub negative : (z : ℤ) → le_z (pos 0) z ≡ false → z ≡ negsuc (mag z)
negative (pos n) t = absurd (omega (arith, leb-false 0 n t))
negative (negsuc n) t = refl
