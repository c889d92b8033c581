-- 02, (vii): what every run is, on any rail and under any method: how it begins, its number, its ticks and its stop.
-- Assumes nothing.
use Rattle.std.specs.Prelude.{ℕ, zero, suc, ◌-◌, ◌≤◌, ◌<◌, ◌≡◌, true, false, not, List, ◌∷◌, ℤ, ◌+ℤ◌, length}
use Rattle.counts.specs.Wrap.{wrapped}
use Rattle.settings.specs.declared.Settings.{Settings}
use Rattle.settings.specs.Refusal.{verdict_number, Test, test, first_of}
use Rattle.checks.specs.Check.{acceptable}
use Rattle.checks.specs.Cases as checks
use Rattle.writer.specs.Write.{write_verdict}
use Rattle.reader.specs.Read.{empty_pending}
use Rattle.homing.specs.Phase.{Idle}
use Rattle.homing.specs.Moving.{running_leg}
use Rattle.homing.specs.Steps.{start_of}
use Rattle.states.specs.declared.State.TheVariants.{OperationEnabled}
use Rattle.modes.specs.declared.Mode.TheVariants.{Homing}
use Rattle.ticks.specs.Motion.{fresh_motion}
use Rattle.rules.specs.Axis.{Axis, Set}
use Rattle.carriage.specs.declared.Rail.{Rail}
use Rattle.carriage.specs.Rail.{rail_fits, switches_at}
use Rattle.simulator.specs.declared.Stop.TheVariants as stop
use Rattle.simulator.specs.declared.Outcome.{Outcome}
use Rattle.simulator.specs.Run.{settled, enabled, started, phase_on, way_of, next_cell, next_axis, stopped, stop_of, run_of}

-- "12 [...] tested before the sheet"; "3, 5 or 6 as by the writer", who tests them in this order
abbrev pub tests_of : Rail → Settings → ℤ → ℕ → List Test
tests_of r s start n = test (not (rail_fits r start n)) 12 ∷ checks.tests_of s

abbrev pub Numbers : Type 0
Numbers = (r : Rail) (s : Settings) (start : ℤ) (n : ℕ) → (run_of r s start n).number ≡ first_of (tests_of r s start n)

-- on a rail that fits, the number is the writer's, into a buffer that is long enough, in the layout that holds every acceptable sheet
abbrev pub AsByTheWriter : Type 0
AsByTheWriter =
    (r : Rail) (s : Settings) (start : ℤ) (n : ℕ) (buffer : List ℕ) → rail_fits r start n ≡ true → 16 ≤ length buffer
    → (run_of r s start n).number ≡ verdict_number (write_verdict 3 s buffer)

-- "on a fresh axis brought to enabled in mode 6 its first tick, at that cell, is the start tick"
pub record Begins (r : Rail) (s : Settings) (start : ℤ) : Type 0 where
  -- the sheet is in force, nothing is pending, and all else is as in a fresh axis
  pub fresh : settled s ≡ record { active = Set s; pending = empty_pending; motion = fresh_motion }
  pub state : (enabled r start (settled s)).motion.state ≡ OperationEnabled
  pub mode : (enabled r start (settled s)).motion.mode ≡ Homing
  pub idle : phase_on (enabled r start (settled s)) ≡ Idle
  -- a or c is picked by the switches at that cell
  pub starts : phase_on (started r s start) ≡ start_of s.method (switches_at r start)

abbrev pub AllBegin : Type 0
AllBegin = (r : Rail) (s : Settings) (start : ℤ) → acceptable s ≡ true → Begins r s start

-- the axis after k later ticks of a run, and the carriage's cell, as if nothing stopped the run
pub record Place : Type 0 where
  pub axis : Axis
  pub cell : ℤ

abbrev pub place_after : Rail → ℕ → Axis → ℤ → Place
place_after r zero a x = record { axis = a; cell = x }
place_after r (suc k) a x = place_after r k (next_axis r a x) (next_cell r a x)

abbrev pub axis_at : Rail → Settings → ℤ → ℕ → Axis
axis_at r s start k = (place_after r k (started r s start) start).axis

abbrev pub cell_at : Rail → Settings → ℤ → ℕ → ℤ
cell_at r s start k = (place_after r k (started r s start) start).cell

-- "at that cell", and "In each later tick the carriage first moves f or s cells, as the running leg is F or S, in that leg's direction without
-- coasting": in each tick the axis is where the carriage is, and the leg that runs after it moves the carriage in the next
pub record InPlace (r : Rail) (s : Settings) (start : ℤ) (k : ℕ) : Type 0 where
  pub position : (axis_at r s start k).motion.position ≡ wrapped (cell_at r s start k)
  pub switches : (axis_at r s start k).motion.switches ≡ switches_at r (cell_at r s start k)
  pub moves : cell_at r s start (suc k) ≡ cell_at r s start k +ℤ way_of r (running_leg (phase_on (axis_at r s start k)))
  -- homing is not idle: a leg runs, or homing has ended
  pub busy : phase_on (axis_at r s start k) ≡ Idle → ⊥

abbrev pub AllInPlace : Type 0
AllInPlace = (r : Rail) (s : Settings) (start : ℤ) → acceptable s ≡ true → (k : ℕ) → InPlace r s start k

-- a run that is not refused: "The run stops at homed, homing error or the given number of ticks, and the result carries the ticks run, the start tick
-- included, and which of the three stopped it, the number of ticks only if neither other did." So the ticks in the result are the steps of the defined
-- run, as 01, "Forms for specific places", asks; their bound is in `Homes.antt`
pub record Steps (r : Rail) (s : Settings) (start : ℤ) (n : ℕ) (o : Outcome) : Type 0 where
  pub number : o.number ≡ 0
  pub least : 1 ≤ o.ticks
  pub most : o.ticks ≤ n
  -- the number of ticks stops it after all of them
  pub out : o.stop ≡ stop.Ticks → o.ticks ≡ n
  -- it is not stopped before its last tick, and what stops it is what that tick leaves, homed or error, or else the number of ticks
  pub before : (k : ℕ) → suc k < o.ticks → stopped (phase_on (axis_at r s start k)) ≡ false
  pub stop : o.stop ≡ stop_of (phase_on (axis_at r s start (o.ticks - 1)))

abbrev pub AllStep : Type 0
AllStep =
    (r : Rail) (s : Settings) (start : ℤ) (n : ℕ) → rail_fits r start n ≡ true → acceptable s ≡ true → Steps r s start n (run_of r s start n)

-- a refused run has no ticks and no stop; its number is in `Numbers`
pub record NotRun (o : Outcome) : Type 0 where
  pub ticks : o.ticks ≡ 0
  pub stop : o.stop ≡ stop.None

abbrev pub AllRefused : Type 0
AllRefused = (r : Rail) (s : Settings) (start : ℤ) (n : ℕ) → ((run_of r s start n).number ≡ 0 → ⊥) → NotRun (run_of r s start n)
