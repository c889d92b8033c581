-- A run followed leg by leg, for its picture: each leg of the trace is the one that runs in its ticks, and together they are the whole run.
-- Assumes nothing.
use Rattle.std.specs.Prelude.{ℕ, ◌+◌, ◌<◌, ◌≡◌, true, ℤ}
use Rattle.settings.specs.declared.Settings.{Settings}
use Rattle.checks.specs.Check.{acceptable}
use Rattle.homing.specs.Phase.{Running}
use Rattle.carriage.specs.declared.Rail.{Rail}
use Rattle.carriage.specs.Rail.{rail_fits}
use Rattle.simulator.specs.declared.LegRun.{LegRun}
use Rattle.simulator.specs.declared.Trace.{Trace}
use Rattle.simulator.specs.declared.Outcome.{Outcome}
use Rattle.simulator.specs.Run.{phase_on, run_of}
use Rattle.simulator.specs.Trace.{trace_of}
use Rattle.arrival.specs.Runs.{axis_at, cell_at}

-- a leg with so many later ticks before it: it runs in its own ticks, from the first to the last, and ends at its cell
pub record LegRuns (r : Rail) (s : Settings) (start : ℤ) (before : ℕ) (leg : LegRun) : Type 0 where
  pub runs : (k : ℕ) → k < leg.ticks → phase_on (axis_at r s start (before + k)) ≡ Running leg.route
  pub cell : leg.cell ≡ cell_at r s start (before + leg.ticks)

-- each leg begins where the one before ended, and the legs, with the start tick, have all the ticks of the run
pub record Whole (r : Rail) (s : Settings) (start : ℤ) (o : Outcome) (t : Trace) : Type 0 where
  pub outcome : t.outcome ≡ o
  pub first : LegRuns r s start 0 t.first
  pub second : LegRuns r s start t.first.ticks t.second
  pub third : LegRuns r s start (t.first.ticks + t.second.ticks) t.third
  pub fourth : LegRuns r s start (t.first.ticks + t.second.ticks + t.third.ticks) t.fourth
  pub ticks : t.first.ticks + t.second.ticks + t.third.ticks + t.fourth.ticks + 1 ≡ o.ticks

abbrev pub AllFollowed : Type 0
AllFollowed =
    (r : Rail) (s : Settings) (start : ℤ) (n : ℕ) → rail_fits r start n ≡ true → acceptable s ≡ true
    → Whole r s start (run_of r s start n) (trace_of r s start n)
