-- On settings in range the cap of a speed changes nothing, and the commanded speed is the one with no guard.
-- Assumes nothing.
use Prim.Native.Nat.{◌-◌, ◌^◌, min}
use mathlib.Core.Path.{◌≡◌, refl}
use mathlib.Core.Bool.{Bool, true, false, cond}
use mathlib.Core.Option.{Option, none, some}
use native.Mathlib.Omega.{arith}
use borrow.Author.Tests.{leb-true}
use lib.Dec.{leb}
use Rattle.settings.specs.declared.Settings.{Settings}
use Rattle.settings.specs.Ranges.{in_range}
use Rattle.settings.proofs.Within.{within, both}
use Rattle.legs.specs.Legs.{Leg}
use Rattle.homing.specs.Phase.{Phase}
use Rattle.homing.specs.Moving.{moving_leg}
use Rattle.speed.specs.Speed.{signed_of, moving_speed, speed_of, plain_signed, plain_moving, plain_speed}

module _ (s : Settings) (e : in_range s ≡ true) where
  pub fast-kept : min s.fast (2 ^ 28 - 1) ≡ s.fast
  fast-kept =
      omega (arith, leb-true s.fast (2 ^ 28 - 1) (both (leb 1 s.fast) (leb s.fast (2 ^ 28 - 1)) (within s e).fast).1)

  pub slow-kept : min s.slow (2 ^ 28 - 1) ≡ s.slow
  slow-kept =
      omega (arith, leb-true s.slow (2 ^ 28 - 1) (both (leb 1 s.slow) (leb s.slow (2 ^ 28 - 1)) (within s e).slow).1)

  -- the speed of a leg, and so of a tick
  leg-plain : (o : Option Leg) → moving_speed s o ≡ plain_moving s o
  unfolding signed_of
  leg-plain (some leg) = go leg.fast
    where
      go : (fast : Bool) → signed_of leg.forward (cond fast s.fast s.slow) ≡ plain_signed leg.forward (cond fast s.fast s.slow)
      go true = rw fast-kept
      go false = rw slow-kept
  leg-plain none = refl

  pub speed-plain : (phase : Phase) (halted : Bool) → speed_of s phase halted ≡ plain_speed s phase halted
  speed-plain phase halted = leg-plain (moving_leg phase halted)
