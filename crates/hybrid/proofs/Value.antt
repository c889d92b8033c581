-- What `size_of` means, in lib.Ieee's account of a float's value: `HasValue q s a c` says that q is finite, a / c in size, and negative where s is true.
-- Assumes nothing.
use Rattle.std.proofs.Common.{◌≡◌, ℕ, ◌+◌, ◌*◌, ◌/◌, ◌<◌, ◌≤◌, Bool, suc-mul, div-mul-le_self, arith}
use native.Mathlib.Nat.{lt-div-mul-add}
use lib.Ieee.{Float, nan, inf, fin, up, down}
use lib.Ieee.Exact.{HasValue}
use lib.Ieee.Fits.{down_pos}
use lib.Ieee.Nearest.{div_same}
use Rattle.hybrid.specs.Hybrid.{size_of, negative}

pub sign-value : (q : Float) (s : Bool) (a c : ℕ) → HasValue q s a c → negative q ≡ s
unfolding negative
sign-value nan s a c h = absurd h
sign-value (inf t) s a c h = absurd h
sign-value (fin t m e) s a c h = h.0

pub size-value : (q : Float) (s : Bool) (a c : ℕ) → 0 < c → HasValue q s a c → size_of q ≡ a / c
unfolding size_of
size-value nan s a c p h = absurd h
size-value (inf t) s a c p h = absurd h
size-value (fin t m e) s a c p h = div_same (m * up e) (down e) a c (down_pos e) p h.1

-- it is the greatest number that is at most a / c
pub size_below : (q : Float) (s : Bool) (a c : ℕ) → 0 < c → HasValue q s a c → size_of q * c ≤ a
size_below q s a c p h = rw (size-value q s a c p h) (div-mul-le_self a c)

pub size_above : (q : Float) (s : Bool) (a c : ℕ) → 0 < c → HasValue q s a c → a < (size_of q + 1) * c
size_above q s a c p h = rw (size-value q s a c p h) (omega (arith, lt-div-mul-add {a = a} p, suc-mul (a / c) c))
