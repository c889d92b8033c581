-- What the floor means: it is the greatest number whose product with d is at most z.
-- Assumes nothing.
use mathlib.Core.Path.{◌≡◌, ap}
use Prim.Native.Nat.{ℕ, zero, suc, ◌+◌, ◌*◌, ◌/◌, ◌≤◌, ◌<◌}
use native.Mathlib.Nat.{suc-mul, div-mul-le_self, lt-div-mul-add}
use native.Mathlib.Omega.{arith}
use lib.Dec.{T, le→leb, lt→ltb}
use lib.IntN.{ℤ, pos, negsuc, neg_ℤ, ◌+ℤ◌, ◌*ℤ◌}
use lib.Signed.{le_z, lt_z, ◌≤ℤ◌, ◌<ℤ◌, le_z_yes, lt_z_yes}
use borrow.Author.Tests.{lt-ltb}
use Rattle.counts.specs.Divide.{floor_div}

below-zero : (m n : ℕ) → n < m → T (le_z (neg_ℤ (pos m)) (negsuc n))
below-zero zero n h = absurd (omega arith)
below-zero (suc m) n h = le→leb n m (omega arith)

above_zero : (m n : ℕ) → m ≤ n → T (lt_z (negsuc n) (neg_ℤ (pos m)))
above_zero zero n h = tt
above_zero (suc m) n h = lt→ltb m n (omega arith)

one_up : (q : ℕ) → negsuc (suc q) +ℤ pos 1 ≡ negsuc q
one_up q = rw (lt-ltb 1 (suc (suc q)) (omega arith)) (ap negsuc (omega arith))

pub floor-below : (z : ℤ) (d : ℕ) → 0 < d → (floor_div z d *ℤ pos d) ≤ℤ z
unfolding floor_div
floor-below (pos n) d h = le_z_yes (le→leb (n / d * d) n (div-mul-le_self n d))
floor-below (negsuc n) d h = le_z_yes (below-zero (suc (n / d) * d) n (rw suc-mul (lt-div-mul-add h)))

pub floor-above : (z : ℤ) (d : ℕ) → 0 < d → z <ℤ ((floor_div z d +ℤ pos 1) *ℤ pos d)
unfolding floor_div
floor-above (pos n) d h = lt_z_yes (lt→ltb n ((n / d + 1) * d) (omega (arith, lt-div-mul-add {a = n} h, suc-mul (n / d) d)))
floor-above (negsuc n) d h = go (n / d) (div-mul-le_self n d)
  where
    go : (q : ℕ) → q * d ≤ n → negsuc n <ℤ ((negsuc q +ℤ pos 1) *ℤ pos d)
    go zero k = lt_z_yes tt
    go (suc q) k = rw (one_up q) (lt_z_yes (above_zero (suc q * d) n k))
