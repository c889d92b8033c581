-- Settings from fourteen values and kind 14's: positions by the bits that the layout has, and these, the option and the homing torque decide the rest.
-- Assumes nothing.
use Prim.Native.Nat.{ℕ, ◌+◌, ◌*◌, ◌/◌, ◌%◌, ◌^◌}
use mathlib.Core.Path.{◌≡◌, ap}
use mathlib.Core.Bool.{true, false}
use mathlib.Core.List.{List, [], ◌∷◌, ◌++◌}
use native.Mathlib.Omega.{arith}
use lib.Dec.{eqb}
use lib.IntN.{ℤ}
use lib.ListN.{length}
use Rattle.counts.specs.Wrap.{signed}
use Rattle.words.specs.Decode.{at, position_from, option_from, homing_from, settings_from, settings_of}
use Rattle.words.proofs.Spelled.{spelled, spell}

-- in layout 1 the top bits vanish, in every other they count
pub short : (l x t : ℕ) → eqb l 1 ≡ true → signed 28 (x % 2 ^ 28) ≡ position_from l x t
unfolding position_from
short l x t e = rw e (ap (signed 28) (omega arith))

pub long : (l x t : ℕ) → eqb l 1 ≡ false → signed 32 ((x + t * 2 ^ 28) % 2 ^ 32) ≡ position_from l x t
unfolding position_from
long l x t e = rw e

pub decoded : (v : List ℕ) (tops : ℕ) → length v ≡ 14 → {o l u : ℤ} {p h : ℕ}
    → o ≡ position_from (at v 0) (at v 4) (tops % 2 ^ 4)
    → l ≡ position_from (at v 0) (at v 7) (tops / 2 ^ 4 % 2 ^ 4)
    → u ≡ position_from (at v 0) (at v 8) (tops / 2 ^ 8 % 2 ^ 4)
    → p ≡ option_from v
    → h ≡ homing_from v
    → settings_from o l u p h v ≡ settings_of (v ++ tops ∷ [])
unfolding settings_of spell
decoded v tops n a b c d e = rw (a, b, c, d, e, spelled 14 v n)
