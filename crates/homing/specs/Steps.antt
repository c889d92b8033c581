-- Homing by number: of a route, homing holds the number of the running leg and those after it.
-- Assumes nothing.
use Rattle.std.specs.Prelude.{ℕ, ◌/◌, cond, not, ◌&&◌, List, [], ◌∷◌, eqb}
use Rattle.std.proofs.Math.Option.{Option, none, some}
use Rattle.legs.specs.declared.events.Switches.{Switches}
use Rattle.legs.specs.Events.{View, event_counts, limit_counts}
use Rattle.legs.specs.Routes.{Row, row_of}
use Rattle.legs.specs.Numbers.{leg_from, turns_in, turn_route, start_route}
use Rattle.homing.specs.Phase.{Phase, Idle, Running, Homed, Failed}

-- the route's first leg runs; with no leg, "After the last event the axis is homed"
abbrev pub entered : ℕ → Phase
entered route = cond (eqb route 0) Homed (Running route)

-- "moves a's first leg (methods 23 to 30) to b's second; in any other leg, those of 33 and 34 included, it sets homing error". A leg that
-- turns where there is no b, which no start and no step leads to, fails.
abbrev pub limit_at : ℕ → ℕ → Phase
limit_at method route = cond (turns_in route && not (eqb (turn_route method) 0)) (Running (turn_route method)) Failed

-- a tick in the running leg, the first of the route that is left
unfoldable pub running_of : ℕ → ℕ → View → Phase
running_of method route v =
    cond v.kept
    (cond (event_counts (leg_from route) v) (entered (route / 256)) (cond (limit_counts (leg_from route) v) (limit_at method route) (Running route)))
    Idle

-- the start tick. A number that is no method makes homing idle.
abbrev pub start_in : ℕ → Switches → Option Row → Phase
start_in method s none = Idle
start_in method s (some r) = entered (start_route method s)

unfoldable pub start_of : ℕ → Switches → Phase
start_of method s = start_in method s (row_of method)

-- a later tick
abbrev pub step_of : Phase → ℕ → View → Phase
step_of Idle method v = Idle
step_of (Running route) method v = running_of method route v
step_of Homed method v = Homed
step_of Failed method v = Failed

-- what `step_of` comes to in a tick that does not keep homing (`Stopped`, `homing/proofs`): "A later tick with bit 4 clear, homing not matched
-- or another state makes homing idle." Homed and error stay.
abbrev pub stopped_of : Phase → Phase
stopped_of Idle = Idle
stopped_of (Running route) = Idle
stopped_of Homed = Homed
stopped_of Failed = Failed

abbrev pub step_all : Phase → ℕ → List View → Phase
step_all p method [] = p
step_all p method (v ∷ vs) = step_all (step_of p method v) method vs
