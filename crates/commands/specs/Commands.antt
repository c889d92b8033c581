-- 01, "A tick": "Each tick carries one command: hybrid, homing, position, torque or rest."
-- Assumes nothing.
use Rattle.std.specs.Prelude.{ℕ, ◌+◌, ◌^◌, cond, ltb, ℤ, pos}
use Rattle.hybrid.specs.Hybrid.{quotient_of, finite, whole_part}
use Rattle.modes.specs.declared.Mode.{Mode}
use Rattle.modes.specs.declared.Mode.TheVariants as mode
use Rattle.commands.specs.declared.Command.{Command}
use Rattle.commands.specs.declared.Command.TheVariants.{Hybrid, Homing, Position, Torque, Rest}
use Rattle.commands.specs.declared.Demand.{Demand}
use Rattle.commands.specs.declared.Demand.TheVariants.{Request, Quotient}

-- "rest has none"
abbrev pub mode_of : Command → Mode
mode_of (Hybrid h) = mode.Hybrid
mode_of (Homing request) = mode.Homing
mode_of (Position target request) = mode.Position
mode_of (Torque request) = mode.Torque
mode_of Rest = mode.None

-- the target of a position command; 0 of any other, which has none
abbrev pub target_in : Command → ℤ
target_in (Hybrid h) = pos 0
target_in (Homing request) = pos 0
target_in (Position target request) = target
target_in (Torque request) = pos 0
target_in Rest = pos 0

-- "The demand is the request, or in hybrid the value below"; rest is never matched, so what it asks for does not matter
abbrev pub demand_of : Command → ℕ → Demand
demand_of (Hybrid h) rated = Quotient (quotient_of h rated)
demand_of (Homing request) rated = Request request
demand_of (Position target request) rated = Request request
demand_of (Torque request) rated = Request request
demand_of Rest rated = Request (pos 0)

-- a demand as a whole number
abbrev pub whole_demand : Demand → ℤ
whole_demand (Request request) = request
whole_demand (Quotient q) = whole_part q

unfoldable pub with_bit31 : ℕ → ℕ
with_bit31 alarm = cond (ltb alarm (2 ^ 31)) (alarm + 2 ^ 31) alarm

-- "If q is not finite, alarm bit 31 is set in that tick, in any mode."
abbrev pub alarm_of : Demand → ℕ → ℕ
alarm_of (Request request) alarm = alarm
alarm_of (Quotient q) alarm = cond (finite q) alarm (with_bit31 alarm)
