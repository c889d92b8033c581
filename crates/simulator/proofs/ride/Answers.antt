-- `simulator::ride` meets its contract: the ticks run, and what is left to run from there, are the run.
-- Assumes nothing.
use Rattle.std.proofs.Common.{◌≡◌, ℕ, ◌-◌, ◌≤◌, ◌<◌, List, ℤ, false, sym, ap, ◌∙◌, arith}
use Rattle.homing.specs.Phase.{phase_of}
use Rattle.cells.specs.Cells.{motion_in, axis_in}
use Rattle.carriage.specs.declared.Rail.{Rail}
use Rattle.simulator.specs.Run.{stopped}
use Rattle.simulator.specs.Stretch.{Stretches}
use Rattle.simulator.proofs.Phases.{phase-on}
use Rattle.simulator.proofs.Stretches.{run_out, run-stopped, Onward, goes-onward}
use Rattle.simulator.proofs.ride.Goals as goal
use Rattle.simulator.proofs.ride.Goals.{then-loop-trip-test+else-not-has_stopped, else-loop-trip-test}

-- the stretch that a turn of the loop runs, of an axis in l in the phase p, which it leaves in m
onward : (r : Rail) (n k p : ℕ) (l m : List ℕ) (x : ℤ) (j : ℕ) (y : ℤ) → 0 < k → k ≤ n → j ≤ k → phase_of p ≡ (motion_in l).phase
    → false ≡ stopped (phase_of p) → Stretches r k (axis_in l) x (k - j) y (axis_in m) → Onward r n k (axis_in l) x j y (axis_in m)
onward r n k p l m x j y f g h e s t = goes-onward r n k (axis_in l) x j y (axis_in m) f g h (ap stopped (phase-on l ∙ sym e) ∙ sym s) t

pub loop-trip-smaller : goal.loop-trip-smaller
loop-trip-smaller c =
    let t = c.loop-trip.trip in
    let q = c.stretch in
    let o = onward t.rail c.args.trip.ticks t.ticks c.phase.result c.loop-trip.axis q.new.axis t.cell q.new.trip.ticks q.new.trip.cell c.loop-trip-test.true c.loop-trip.invariant.few q.ensures.fewer c.phase.ensures c.if-not-has_stopped.ensures q.ensures.led in
    o.some

pub loop-trip-preserved : goal.loop-trip-preserved
loop-trip-preserved c =
    let t = c.loop-trip.trip in
    let q = c.stretch in
    let i = c.loop-trip.invariant in
    let o = onward t.rail c.args.trip.ticks t.ticks c.phase.result c.loop-trip.axis q.new.axis t.cell q.new.trip.ticks q.new.trip.cell c.loop-trip-test.true c.loop-trip.invariant.few q.ensures.fewer c.phase.ensures c.if-not-has_stopped.ensures q.ensures.led in
    record {
      rail = q.ensures.same_rail ∙ i.rail;
      few = omega arith;
      led = i.led ∙ rw i.rail at o.same;
    }

pub returns-clause-cell_value : goal.returns-clause-cell_value
returns-clause-cell_value c =
    let t = c.loop-trip.trip in
    let f = c.args.trip in
    let a = axis_in c.loop-trip.axis in
    elim c.loop-trip-test.branch [
      | then-loop-trip-test+else-not-has_stopped w ↦ c.loop-trip.invariant.led ∙ run-stopped f.rail t.ticks (f.ticks - t.ticks) a t.cell (ap stopped (phase-on c.loop-trip.axis ∙ sym w.phase.ensures) ∙ sym w.if-not-has_stopped.ensures)
      | else-loop-trip-test w ↦ c.loop-trip.invariant.led ∙ run_out f.rail t.ticks (f.ticks - t.ticks) a t.cell (omega arith)
    ]
