-- Numbers of 16 bits.
-- Assumes nothing.
use mathlib.Core.Path.{◌≡◌, refl}
use mathlib.Core.Bool.{Bool, true, false, cond}
use native.Mathlib.Omega.{arith}
use borrow.Author.Tests.{ltb-false}
use lib.Dec.{ltb}
use lib.IntN.{ℤ, pos, negsuc}
use mir.Syntax.{w16}
use mir.Val.{SFits}
use Rattle.counts.specs.Clamp.{clamped}

-- a number held within 16 bits fits them
pub held_fits : (z : ℤ) → SFits w16 (clamped z (negsuc 32767) (pos 32767))
unfolding clamped
held_fits (pos n) = go (ltb 32767 n) refl
  where
    go : (t : Bool) → ltb 32767 n ≡ t → SFits w16 (cond t (pos 32767) (pos n))
    go true e = record { sfits = omega arith }
    go false e = record { sfits = omega (arith, ltb-false 32767 n e) }
held_fits (negsuc n) = go (ltb 32767 n) refl
  where
    go : (t : Bool) → ltb 32767 n ≡ t → SFits w16 (cond t (negsuc 32767) (negsuc n))
    go true e = record { sfits = omega arith }
    go false e = record { sfits = omega (arith, ltb-false 32767 n e) }
