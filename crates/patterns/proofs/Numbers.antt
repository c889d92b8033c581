-- A signed number as the machine holds it, and a word read as one.
-- Assumes nothing.
use Prim.Native.Nat.{ℕ, suc, ◌-◌, ◌%◌, ◌^◌, ◌<◌}
use mathlib.Core.Path.{◌≡◌, refl}
use mathlib.Core.Bool.{Bool, true, false, cond}
use native.Mathlib.Omega.{arith}
use borrow.Author.Tests.{lt-ltb}
use lib.Dec.{ltb}
use lib.IntN.{ℤ, pos, negsuc, ◌-ℤ◌}
use lib.Signed.{mag}
use mir.Facts.{to_z-of_z}
use mir.Syntax.{w32}
use mir.Val.{to_z, of_z}
use Rattle.counts.specs.Wrap.{modulo, signed, wrapped}

pub read32 : (z : ℤ) → mag z < 2 ^ 31 → to_z w32 (of_z w32 z) ≡ z
read32 z h = to_z-of_z {w = w32} {z = z} (record { sfits = h })

-- from 2 ^ 31 on, less 2 ^ 32
pub read-word : (w : ℕ) → w < 2 ^ 32 → to_z w32 w ≡ wrapped (pos w)
unfolding modulo signed wrapped
read-word w h = let e : w % 2 ^ 32 ≡ w = omega arith in rw e (go (ltb w (2 ^ 31)) refl)
  where
    go : (b : Bool) → ltb w (2 ^ 31) ≡ b → cond b (pos w) (negsuc (2 ^ 32 - suc w)) ≡ cond b (pos w) (pos w -ℤ pos (2 ^ 32))
    go true e = refl
    go false e = rw (lt-ltb w (2 ^ 32) h)
