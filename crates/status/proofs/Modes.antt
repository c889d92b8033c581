-- The statusword put together by mode and by where homing stands.
-- Assumes nothing.
use Prim.Native.Nat.{◌+◌, ◌*◌}
use mathlib.Core.Path.{◌≡◌}
use mathlib.Core.Bool.{Bool, true, false}
use mir.Val.{bool_byte}
use native.Mathlib.Omega.{arith}
use Rattle.states.specs.declared.State.{State}
use Rattle.states.specs.Status.{status_of}
use Rattle.modes.specs.declared.Mode.{Mode}
use Rattle.modes.specs.declared.Mode.TheVariants.{None, Hybrid, Homing, Position, Torque}
use Rattle.homing.specs.Phase.{Phase, Idle, Running, Homed, Failed}
use Rattle.status.specs.Statusword.{weight_of, flags_in, mode_bits, statusword_of}

-- a flag as a number, times a weight
limit : (b : Bool) → 0x0800 * bool_byte b ≡ weight_of b 0x0800
limit true = omega arith
limit false = omega arith

module _ (s : State) (following limited : Bool) where
  by_mode : (mode : Mode) (p : Phase)
      → status_of s + mode_bits mode p following + weight_of limited 0x0800 ≡ statusword_of s mode (flags_in p following limited)
  unfolding statusword_of
  by_mode None Idle = omega arith
  by_mode None (Running place) = omega arith
  by_mode None Homed = omega arith
  by_mode None Failed = omega arith
  by_mode Hybrid Idle = omega arith
  by_mode Hybrid (Running place) = omega arith
  by_mode Hybrid Homed = omega arith
  by_mode Hybrid Failed = omega arith
  by_mode Homing Idle = omega arith
  by_mode Homing (Running place) = omega arith
  by_mode Homing Homed = omega arith
  by_mode Homing Failed = omega arith
  by_mode Position Idle = omega arith
  by_mode Position (Running place) = omega arith
  by_mode Position Homed = omega arith
  by_mode Position Failed = omega arith
  by_mode Torque Idle = omega arith
  by_mode Torque (Running place) = omega arith
  by_mode Torque Homed = omega arith
  by_mode Torque Failed = omega arith

  pub as_added : (mode : Mode) (p : Phase)
      → status_of s + mode_bits mode p following + 0x0800 * bool_byte limited ≡ statusword_of s mode (flags_in p following limited)
  as_added mode p = rw (limit limited) (by_mode mode p)
