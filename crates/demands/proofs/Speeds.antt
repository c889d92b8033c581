-- The speed that an answer tells fits 32 bits signed: the guard of speeds makes it so for any settings.
-- Assumes nothing.
use Prim.Native.Nat.{ℕ, ◌-◌, ◌^◌, min, ◌<◌}
use mathlib.Core.Bool.{Bool, true, false, cond}
use mathlib.Core.Option.{Option, none, some}
use native.Mathlib.Omega.{arith}
use lib.Signed.{mag}
use Rattle.counts.proofs.Integers.{mag-neg-pos}
use Rattle.settings.specs.declared.Settings.{Settings}
use Rattle.legs.specs.Legs.{Leg}
use Rattle.homing.specs.Phase.{Phase}
use Rattle.homing.specs.Moving.{moving_leg}
use Rattle.speed.specs.Speed.{signed_of, moving_speed, speed_of}

signed-small : (forward : Bool) (n : ℕ) → mag (signed_of forward n) < 2 ^ 31
unfolding signed_of
signed-small true n = omega arith
signed-small false n = omega (arith, mag-neg-pos (min n (2 ^ 28 - 1)))

leg-small : (s : Settings) (o : Option Leg) → mag (moving_speed s o) < 2 ^ 31
leg-small s none = omega arith
leg-small s (some leg) = signed-small leg.forward (cond leg.fast s.fast s.slow)

pub speed-small : (s : Settings) (phase : Phase) (halted : Bool) → mag (speed_of s phase halted) < 2 ^ 31
speed-small s phase halted = leg-small s (moving_leg phase halted)
