-- 01, "The sheet", and 02: every field in its range.
-- Assumes nothing.
use Rattle.std.specs.Prelude.{ℕ, Bool, ◌&&◌}
use Rattle.counts.specs.Fits.{fits}
use Rattle.ranges.specs.Range.{method_ok, speed_ok, ratio_ok, torque_ok, option_ok, rated_ok}
use Rattle.settings.specs.declared.Settings.{Settings}

-- offset and stops fit so many bits signed
unfoldable pub positions_fit : ℕ → Settings → Bool
positions_fit bits s = fits bits s.offset && fits bits s.lower && fits bits s.upper

-- the other fields in the order of their kinds: homing method and speeds, gear, torques, the drive's own
abbrev pub route_ok : Settings → Bool
route_ok s = method_ok s.method && speed_ok s.fast && speed_ok s.slow

abbrev pub gear_ok : Settings → Bool
gear_ok s = ratio_ok s.numerator && ratio_ok s.denominator

-- 02, (v): "the homing torque, 0 to 3000"
abbrev pub torques_ok : Settings → Bool
torques_ok s =
    torque_ok s.maximum && torque_ok s.positive1 && torque_ok s.negative1 && torque_ok s.positive2 && torque_ok s.negative2
    && torque_ok s.homing

abbrev pub drive_ok : Settings → Bool
drive_ok s = option_ok s.option && rated_ok s.rated

-- 02, (iv): offset and stops are "32-bit signed"; how many bits a layout has for them is said in `layouts/specs/Layout.antt`
unfoldable pub in_range : Settings → Bool
in_range s = positions_fit 32 s && route_ok s && gear_ok s && torques_ok s && drive_ok s
