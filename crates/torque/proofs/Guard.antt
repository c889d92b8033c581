-- On settings in range the cap's guard changes nothing, and the commanded torque is the one with no guard.
-- Assumes nothing.
use Prim.Native.Nat.{ℕ}
use mathlib.Core.Path.{◌≡◌}
use mathlib.Core.Bool.{Bool, true}
use native.Mathlib.Omega.{arith}
use borrow.Author.Tests.{leb-true}
use lib.IntN.{ℤ}
use Rattle.settings.specs.declared.Settings.{Settings}
use Rattle.settings.specs.Ranges.{in_range}
use Rattle.settings.proofs.Within.{within}
use Rattle.modes.specs.declared.Mode.{Mode}
use Rattle.torque.specs.declared.LimitSet.{LimitSet}
use Rattle.torque.specs.Limits.{positive_limit, negative_limit, cap_of, guarded}
use Rattle.torque.specs.Torque.{torque_of, plain_torque}
use Rattle.torque.proofs.Within.{ceiling-low}

pub cap-kept : (s : Settings) → in_range s ≡ true → (mode : Mode) (limit : ℕ) → guarded (cap_of s mode limit) ≡ cap_of s mode limit
unfolding cap_of
cap-kept s e mode limit = omega (arith, leb-true s.maximum 3000 (within s e).maximum, ceiling-low s mode)

pub torque-plain : (s : Settings) → in_range s ≡ true → (mode : Mode) (set : LimitSet) (on : Bool) (demand : ℤ)
    → torque_of s mode set on demand ≡ plain_torque s mode set on demand
unfolding torque_of
torque-plain s e mode set on demand = rw (cap-kept s e mode (negative_limit s set), cap-kept s e mode (positive_limit s set))
