-- The phases of homing, and the number that the code holds for each.
-- Assumes nothing.
use Rattle.std.specs.Prelude.{ℕ, ◌^◌, Bool, true, false, cond, eqb, ltb}

-- where homing stands; Running holds the running leg and those after it, as a route's number (`legs/specs/Numbers.antt`)
pub data Phase : Type 0 where
  Idle : Phase
  Running : ℕ → Phase
  Homed : Phase
  Failed : Phase

-- a phase as one number: 0 idle, below 2 ^ 31 the route that runs, 2 ^ 31 homed, and above it failed. Every number means a phase.
unfoldable pub phase_of : ℕ → Phase
phase_of n = cond (eqb n 0) Idle (cond (ltb n (2 ^ 31)) (Running n) (cond (eqb n (2 ^ 31)) Homed Failed))

abbrev pub homed_in : Phase → Bool
homed_in Idle = false
homed_in (Running route) = false
homed_in Homed = true
homed_in Failed = false

abbrev pub running_in : Phase → Bool
running_in Idle = false
running_in (Running route) = true
running_in Homed = false
running_in Failed = false

abbrev pub failed_in : Phase → Bool
failed_in Idle = false
failed_in (Running route) = false
failed_in Homed = false
failed_in Failed = true
