-- Products in 64 bits: the difference of two 32-bit numbers, times at most 2 ^ 20, fits and is small, and an i32 times a u32 fits.
-- Assumes nothing.
use Prim.Native.Nat.{ℕ, ◌+◌, ◌-◌, ◌^◌, ◌≤◌, ◌<◌}
use mathlib.Core.Path.{◌≡◌, ◌∙◌}
use native.Mathlib.Omega.{arith}
use lib.IntN.{ℤ, pos, ◌-ℤ◌, ◌*ℤ◌}
use lib.Signed.{mag}
use mir.Facts.{to_z-of_z}
use mir.Syntax.{w32, w64}
use mir.Val.{Fits, SFits, to_z, of_z}
use Rattle.counts.proofs.Integers.{wide, read_wide, read-unsigned, sub-fits, mag-sub, mag-mul}

-- (a − b) * k as the machine computes it
abbrev computed : ℤ → ℤ → ℕ → ℤ
computed a b k = to_z w64 (of_z w64 (wide a -ℤ wide b)) *ℤ to_z w64 k

module _ {a b : ℤ} {k : ℕ} (f : SFits w32 a) (g : SFits w32 b) (h : k ≤ 2 ^ 20) where
  computes : computed a b k ≡ (a -ℤ b) *ℤ pos k
  computes = rw (read_wide f, read_wide g, to_z-of_z (sub-fits f g), read-unsigned k (omega arith))

  small : mag ((a -ℤ b) *ℤ pos k) < 2 ^ 56
  small =
      let difference = mag-sub a b (2 ^ 32 + 2) (omega (arith, f.sfits, g.sfits)) in
      omega (arith, mag-mul (a -ℤ b) k (2 ^ 32 + 2) (2 ^ 20) difference h)

  pub product-fits : SFits w64 (computed a b k)
  product-fits = rw computes (record { sfits = omega (arith, small) })

  pub product-read : to_z w64 (of_z w64 (computed a b k)) ≡ (a -ℤ b) *ℤ pos k
  product-read = to_z-of_z product-fits ∙ computes

  pub product_small : mag (to_z w64 (of_z w64 (computed a b k))) < 2 ^ 56
  product_small = rw product-read small

-- a bound of the count times the denominator
pub times-fits : {z : ℤ} {d : ℕ} → SFits w32 z → Fits w32 d → SFits w64 (z *ℤ to_z w64 d)
times-fits {z} {d} f g =
    let top : d ≤ 2 ^ 32 - 1 = omega (arith, g.fits) in
    rw (read-unsigned d g.fits) (record { sfits = omega (arith, mag-mul z d (2 ^ 31) (2 ^ 32 - 1) f.sfits top) })
