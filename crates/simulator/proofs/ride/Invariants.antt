-- `simulator::ride`: the ticks run, and what is left to run from there, are the run.
-- Assumes nothing.
use Rattle.std.proofs.Common.{◌≡◌, ◌-◌, ◌≤◌}
use Rattle.cells.specs.Cells.{axis_in}
use Rattle.simulator.specs.Run.{ride}
use Rattle.simulator.proofs.Stretches.{later}
use Rattle.simulator.proofs.ride.Given as goal

abbrev pub invariant-loop-trip : goal.invariant-loop-trip
invariant-loop-trip l =
    record {
      rail : l.trip.rail ≡ l.fn.trip.rail;
      few : l.trip.ticks ≤ l.fn.trip.ticks;
      led : ride l.fn.trip.rail l.fn.trip.ticks (axis_in l.fn.axis) l.fn.trip.cell
          ≡ later (l.fn.trip.ticks - l.trip.ticks) (ride l.fn.trip.rail l.trip.ticks (axis_in l.axis) l.trip.cell);
    }

abbrev pub decreases-loop-trip : goal.decreases-loop-trip
decreases-loop-trip l = l.trip.ticks
