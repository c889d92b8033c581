-- `simulator::stretch`: the ticks run, and what is left of the stretch from there, are the stretch.
-- Assumes nothing.
use Rattle.std.proofs.Common.{◌≡◌, ◌-◌, ◌≤◌}
use Rattle.homing.specs.Phase.{phase_of}
use Rattle.cells.specs.Cells.{axis_in}
use Rattle.simulator.specs.Stretch.{stretch_in}
use Rattle.simulator.proofs.Stretches.{further}
use Rattle.simulator.proofs.stretch.Given as goal

abbrev pub invariant-loop-trip : goal.invariant-loop-trip
invariant-loop-trip l =
    record {
      rail : l.trip.rail ≡ l.fn.trip.rail;
      few : l.trip.ticks ≤ l.fn.trip.ticks;
      led : stretch_in (phase_of l.phase) l.fn.trip.rail l.fn.trip.ticks (axis_in l.fn.axis) l.fn.trip.cell
          ≡ further (l.fn.trip.ticks - l.trip.ticks) (stretch_in (phase_of l.phase) l.fn.trip.rail l.trip.ticks (axis_in l.axis) l.trip.cell);
    }

abbrev pub decreases-loop-trip : goal.decreases-loop-trip
decreases-loop-trip l = l.trip.ticks
