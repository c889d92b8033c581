-- The column of a cell, by where the cell lies.
-- Assumes nothing.
use Prim.Native.Nat.{ℕ, ◌+◌, ◌*◌, ◌/◌, ◌≤◌, ◌<◌}
use mathlib.Core.Path.{◌≡◌, refl, sym}
use native.Mathlib.Omega.{arith}
use borrow.Author.Tests.{lt-ltb, le-ltb}
use lib.IntN.{ℤ, pos, negsuc, nat_abs}
use mir.Facts.{to_z-of_z}
use mir.Syntax.{w64}
use mir.Val.{SFits, to_z, of_z}
use Rattle.std.specs.Int.{FitsUnsignedBits}
use Rattle.carriage.specs.declared.Rail.{Rail}
use Rattle.drawing.specs.Strip.{columns, column_of}

-- a cell as the machine reads it
abbrev read : ℤ → ℤ
read z = to_z w64 (of_z w64 z)

below : (r : Rail) (z : ℤ) → SFits w64 z → (FitsUnsignedBits 64 z → ⊥) → 0 ≡ column_of r z
unfolding column_of
below r (pos n) f h = absurd (h (omega (arith, f.sfits)))
below r (negsuc n) f h = refl

pub column-below : (r : Rail) {z : ℤ} → SFits w64 z → (FitsUnsignedBits 64 (read z) → ⊥) → 0 ≡ column_of r z
column-below r {z} f h = below r z f (rw (to_z-of_z f) at h)

among : (r : Rail) (z : ℤ) → FitsUnsignedBits 64 z → nat_abs z < r.length → 1 + nat_abs z * columns r / r.length ≡ column_of r z
unfolding column_of
among r (pos n) f h = rw (lt-ltb n r.length h)
among r (negsuc n) f h = absurd f

pub column-among : (r : Rail) {z : ℤ} (k place : ℕ) → k ≡ columns r → SFits w64 z → FitsUnsignedBits 64 (read z) × place ≡ nat_abs (read z) → place < r.length
    → 1 + place * k / r.length ≡ column_of r z
column-among r {z} k place e f u h =
    let v = rw (to_z-of_z f) at u in
    rw (e, v.1) (among r z v.0 (rw (sym v.1) h))

beyond : (r : Rail) (z : ℤ) → FitsUnsignedBits 64 z → r.length ≤ nat_abs z → columns r + 1 ≡ column_of r z
unfolding column_of
beyond r (pos n) f h = rw (le-ltb n r.length h)
beyond r (negsuc n) f h = absurd f

pub column-beyond : (r : Rail) {z : ℤ} (k place : ℕ) → k ≡ columns r → SFits w64 z → FitsUnsignedBits 64 (read z) × place ≡ nat_abs (read z) → r.length ≤ place
    → k + 1 ≡ column_of r z
column-beyond r {z} k place e f u h =
    let v = rw (to_z-of_z f) at u in
    rw e (beyond r z v.0 (rw (sym v.1) h))
