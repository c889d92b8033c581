-- What the range test says of each field, and back.
-- Assumes nothing.
use Prim.Native.Nat.{ℕ}
use mathlib.Core.Path.{◌≡◌, refl}
use mathlib.Core.Bool.{Bool, true, false, ◌&&◌, false≢true}
use Rattle.counts.specs.Fits.{fits}
use Rattle.settings.specs.declared.Settings.{Settings}
use Rattle.ranges.specs.Range.{method_ok, speed_ok, ratio_ok, torque_ok, option_ok, rated_ok}
use Rattle.settings.specs.Ranges.{positions_fit, route_ok, gear_ok, torques_ok, drive_ok, in_range}

pub both : (a b : Bool) → a && b ≡ true → (a ≡ true) × (b ≡ true)
both true b e = (refl, e)
both false b e = absurd (false≢true e)

-- offset and limits fit so many bits
pub record PositionsFit (bits : ℕ) (s : Settings) : Type 0 where
  pub offset : fits bits s.offset ≡ true
  pub lower : fits bits s.lower ≡ true
  pub upper : fits bits s.upper ≡ true

pub positions : (bits : ℕ) (s : Settings) → positions_fit bits s ≡ true → PositionsFit bits s
unfolding positions_fit
positions bits s e =
    let upper = both (fits bits s.offset && fits bits s.lower) (fits bits s.upper) e in
    let lower = both (fits bits s.offset) (fits bits s.lower) upper.0 in
    record { offset = lower.0; lower = lower.1; upper = upper.1 }

pub positions-fit : (bits : ℕ) (s : Settings) → PositionsFit bits s → positions_fit bits s ≡ true
unfolding positions_fit
positions-fit bits s p = rw (p.offset, p.lower, p.upper)

pub record Within (s : Settings) : Type 0 where
  pub method : method_ok s.method ≡ true
  pub fast : speed_ok s.fast ≡ true
  pub slow : speed_ok s.slow ≡ true
  pub offset : fits 32 s.offset ≡ true
  pub numerator : ratio_ok s.numerator ≡ true
  pub denominator : ratio_ok s.denominator ≡ true
  pub lower : fits 32 s.lower ≡ true
  pub upper : fits 32 s.upper ≡ true
  pub maximum : torque_ok s.maximum ≡ true
  pub positive1 : torque_ok s.positive1 ≡ true
  pub negative1 : torque_ok s.negative1 ≡ true
  pub positive2 : torque_ok s.positive2 ≡ true
  pub negative2 : torque_ok s.negative2 ≡ true
  pub option : option_ok s.option ≡ true
  pub rated : rated_ok s.rated ≡ true
  pub homing : torque_ok s.homing ≡ true

pub within : (s : Settings) → in_range s ≡ true → Within s
unfolding in_range
within s e =
    let drive = both (positions_fit 32 s && route_ok s && gear_ok s && torques_ok s) (drive_ok s) e in
    let torques = both (positions_fit 32 s && route_ok s && gear_ok s) (torques_ok s) drive.0 in
    let gear = both (positions_fit 32 s && route_ok s) (gear_ok s) torques.0 in
    let route = both (positions_fit 32 s) (route_ok s) gear.0 in
    let p = positions 32 s route.0 in
    let slow = both (method_ok s.method && speed_ok s.fast) (speed_ok s.slow) route.1 in
    let fast = both (method_ok s.method) (speed_ok s.fast) slow.0 in
    let denominator = both (ratio_ok s.numerator) (ratio_ok s.denominator) gear.1 in
    let homing = both (torque_ok s.maximum && torque_ok s.positive1 && torque_ok s.negative1 && torque_ok s.positive2 && torque_ok s.negative2) (torque_ok s.homing) torques.1 in
    let negative2 = both (torque_ok s.maximum && torque_ok s.positive1 && torque_ok s.negative1 && torque_ok s.positive2) (torque_ok s.negative2) homing.0 in
    let positive2 = both (torque_ok s.maximum && torque_ok s.positive1 && torque_ok s.negative1) (torque_ok s.positive2) negative2.0 in
    let negative1 = both (torque_ok s.maximum && torque_ok s.positive1) (torque_ok s.negative1) positive2.0 in
    let positive1 = both (torque_ok s.maximum) (torque_ok s.positive1) negative1.0 in
    let rated = both (option_ok s.option) (rated_ok s.rated) drive.1 in
    record {
      method = fast.0;
      fast = fast.1;
      slow = slow.1;
      offset = p.offset;
      numerator = denominator.0;
      denominator = denominator.1;
      lower = p.lower;
      upper = p.upper;
      maximum = positive1.0;
      positive1 = positive1.1;
      negative1 = negative1.1;
      positive2 = positive2.1;
      negative2 = negative2.1;
      option = rated.0;
      rated = rated.1;
      homing = homing.1;
    }

pub whole : (s : Settings) → Within s → in_range s ≡ true
unfolding in_range positions_fit
whole s w =
    rw (w.method, w.fast, w.slow, w.offset, w.numerator, w.denominator, w.lower, w.upper, w.maximum, w.positive1, w.negative1, w.positive2, w.negative2, w.option, w.rated, w.homing)
