-- 01, "Drive state": "Bit 8 is added when homed." And "Status above bit 9". The mode is the shown one, after the mode step.
-- Assumes nothing.
use Rattle.std.specs.Prelude.{ℕ, ◌+◌, ◌^◌, Bool, true, false, cond, not, ◌&&◌, ◌||◌}
use Rattle.states.specs.declared.State.{State}
use Rattle.states.specs.Status.{status_of}
use Rattle.modes.specs.declared.Mode.{Mode}
use Rattle.modes.specs.declared.Mode.TheVariants.{Homing, Position}
use Rattle.modes.specs.Modes.{is_mode}
use Rattle.homing.specs.Phase.{Phase, homed_in, running_in, failed_in}

-- what the statusword shows besides the drive's state
pub record Flags : Type 0 where
  -- the axis is homed; homing runs, also where it is halted; homing error
  pub homed : Bool
  pub running : Bool
  pub failed : Bool
  -- a target is followed; a limit switch is on, or the followed target was clamped
  pub following : Bool
  pub limited : Bool

-- by where homing stands
abbrev pub flags_in : Phase → Bool → Bool → Flags
flags_in p following limited =
    record {
      homed = homed_in p;
      running = running_in p;
      failed = failed_in p;
      following = following;
      limited = limited;
    }

abbrev pub weight_of : Bool → ℕ → ℕ
weight_of true weight = weight
weight_of false weight = 0

-- bit 11 (CiA 402: internal limit active): "11 if POT or NOT is on, or the followed target was clamped"
abbrev pub limit_active : Bool → Bool → Bool → Bool
limit_active positive negative clamped = positive || negative || clamped

-- bit 10 (CiA 402: target reached): "In mode 6: 10 unless homing runs"
abbrev pub reached_of : Mode → Flags → Bool
reached_of mode f = is_mode mode Homing && not f.running

-- bit 12 (homing attained; drive follows the command value): "In mode 6: … 12 homed"; "In mode 8: 12 when a target is followed"
abbrev pub attained_or_following : Mode → Flags → Bool
attained_or_following mode f = (is_mode mode Homing && f.homed) || (is_mode mode Position && f.following)

-- bit 13 (homing error): "In mode 6: … 13 error"
abbrev pub homing_error_of : Mode → Flags → Bool
homing_error_of mode f = is_mode mode Homing && f.failed

-- the drive's bits, of which none is bit 8 or above 9; then 8, 10, 11, 12 and 13; "the rest 0"
unfoldable pub statusword_of : State → Mode → Flags → ℕ
statusword_of s mode f =
    status_of s
    + weight_of f.homed (2 ^ 8)
    + weight_of (reached_of mode f) (2 ^ 10)
    + weight_of f.limited (2 ^ 11)
    + weight_of (attained_or_following mode f) (2 ^ 12)
    + weight_of (homing_error_of mode f) (2 ^ 13)

-- The same by where homing stands: contracts of the code's own helpers.

-- bits 8, 10, 12 and 13 in homing mode, and in any other
abbrev pub homing_bits : Phase → ℕ
homing_bits p = cond (running_in p) 0 (cond (homed_in p) 0x1500 (cond (failed_in p) 0x2400 0x0400))

abbrev pub other_bits : Mode → Phase → Bool → ℕ
other_bits mode p following = weight_of (homed_in p) 0x0100 + weight_of (is_mode mode Position && following) 0x1000

abbrev pub mode_bits : Mode → Phase → Bool → ℕ
mode_bits mode p following = cond (is_mode mode Homing) (homing_bits p) (other_bits mode p following)
