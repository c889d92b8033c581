-- A run leg by leg, for a picture of it.
-- Assumes nothing.
use Rattle.std.specs.Prelude.{ℕ, ◌-◌, ◌≡◌, cond, eqb, ℤ}
use Rattle.settings.specs.declared.Settings.{Settings}
use Rattle.homing.specs.Phase.{Phase, Idle, Running, Homed, Failed}
use Rattle.rules.specs.Axis.{Axis}
use Rattle.carriage.specs.declared.Rail.{Rail}
use Rattle.simulator.specs.declared.LegRun.{LegRun}
use Rattle.simulator.specs.declared.Outcome.{Outcome}
use Rattle.simulator.specs.declared.Trace.{Trace}
use Rattle.simulator.specs.Run.{started, phase_on, run_of}
use Rattle.simulator.specs.Stretch.{Stretch, stretch_of}

-- the route whose first leg runs
abbrev pub route_in : Phase → ℕ
route_in Idle = 0
route_in (Running route) = route
route_in Homed = 0
route_in Failed = 0

-- the leg from an axis on, by its stretch; with no tick it did not run, whatever its route
abbrev pub leg_of : Axis → Stretch → LegRun
leg_of a t = record { route = route_in (phase_on a); ticks = t.ticks; cell = t.cell }

-- four stretches, each from where the one before led, with the ticks that it left
abbrev pub legs_from : Rail → ℕ → Axis → ℤ → Outcome → Trace
legs_from r n a x o =
    let t1 = stretch_of r n a x in
    let n1 = n - t1.ticks in
    let t2 = stretch_of r n1 t1.axis t1.cell in
    let n2 = n1 - t2.ticks in
    let t3 = stretch_of r n2 t2.axis t2.cell in
    let n3 = n2 - t3.ticks in
    let t4 = stretch_of r n3 t3.axis t3.cell in
    record { outcome = o; first = leg_of a t1; second = leg_of t1.axis t2; third = leg_of t2.axis t3; fourth = leg_of t3.axis t4 }

abbrev pub no_leg : ℤ → LegRun
no_leg start = record { route = 0; ticks = 0; cell = start }

-- a refused run has no leg
abbrev pub no_legs : ℤ → Outcome → Trace
no_legs start o = record { outcome = o; first = no_leg start; second = no_leg start; third = no_leg start; fourth = no_leg start }

abbrev pub traced : Rail → Settings → ℤ → ℕ → Outcome → Trace
traced r s start n o = cond (eqb o.number 0) (legs_from r (n - 1) (started r s start) start o) (no_legs start o)

unfoldable pub trace_of : Rail → Settings → ℤ → ℕ → Trace
trace_of r s start n = traced r s start n (run_of r s start n)

-- one leg run: what is told of it, and the axis after it
pub record RunsLeg (r : Rail) (n : ℕ) (a : Axis) (x : ℤ) (leg : LegRun) (b : Axis) : Type 0 where
  pub told : leg ≡ leg_of a (stretch_of r n a x)
  pub left : b ≡ (stretch_of r n a x).axis
