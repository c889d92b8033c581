-- The leg in which the axis moves after a tick.
-- Assumes nothing.
use Rattle.std.specs.Prelude.{Bool, cond}
use Rattle.std.proofs.Math.Option.{Option, none, some}
use Rattle.legs.specs.Legs.{Leg}
use Rattle.legs.specs.Numbers.{leg_from}
use Rattle.homing.specs.Phase.{Phase, Idle, Running, Homed, Failed}

-- the leg that runs
abbrev pub running_leg : Phase → Option Leg
running_leg Idle = none
running_leg (Running route) = some (leg_from route)
running_leg Homed = none
running_leg Failed = none

-- a halted tick moves nothing
abbrev pub moving_leg : Phase → Bool → Option Leg
moving_leg phase halted = cond halted none (running_leg phase)
