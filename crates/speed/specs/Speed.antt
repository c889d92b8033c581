-- 01: "Speed: the running leg's signed speed; 0 if idle or halted."
-- Assumes nothing.
use Rattle.std.specs.Prelude.{ℕ, ◌-◌, ◌^◌, min, Bool, cond, ℤ, pos, neg_ℤ}
use Rattle.std.proofs.Math.Option.{Option, none, some}
use Rattle.settings.specs.declared.Settings.{Settings}
use Rattle.homing.specs.Phase.{Phase}
use Rattle.homing.specs.Moving.{moving_leg}
use Rattle.legs.specs.Legs.{Leg}

-- a magnitude with the sign of a direction. The least of it and 2 ^ 28 − 1 is a guard: in range it changes nothing (`proofs/Guard.antt`)
unfoldable pub signed_of : Bool → ℕ → ℤ
signed_of forward speed = cond forward (pos (min speed (2 ^ 28 - 1))) (neg_ℤ (pos (min speed (2 ^ 28 - 1))))

-- F fast, S slow
abbrev pub leg_speed : Settings → Leg → ℤ
leg_speed s leg = signed_of leg.forward (cond leg.fast s.fast s.slow)

abbrev pub moving_speed : Settings → Option Leg → ℤ
moving_speed s none = pos 0
moving_speed s (some leg) = leg_speed s leg

-- the speed of the leg in which the axis moves after the tick
abbrev pub speed_of : Settings → Phase → Bool → ℤ
speed_of s phase halted = moving_speed s (moving_leg phase halted)

-- the same with no guard: a leg's speed is fast or slow, with the leg's sign
abbrev pub plain_signed : Bool → ℕ → ℤ
plain_signed forward speed = cond forward (pos speed) (neg_ℤ (pos speed))

abbrev pub plain_moving : Settings → Option Leg → ℤ
plain_moving s none = pos 0
plain_moving s (some leg) = plain_signed leg.forward (cond leg.fast s.fast s.slow)

abbrev pub plain_speed : Settings → Phase → Bool → ℤ
plain_speed s phase halted = plain_moving s (moving_leg phase halted)
