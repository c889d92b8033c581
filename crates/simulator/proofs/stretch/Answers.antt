-- `simulator::stretch` meets its contract: a tick more, the end, and where it doesn't begin.
-- Assumes nothing.
use Rattle.std.proofs.Common.{◌≡◌, ◌-◌, ◌+ℤ◌, sym, ap, ◌∙◌, arith, rules, to_z-of_z}
use mir.Syntax.{w64}
use mir.Val.{SFits}
use Rattle.homing.specs.Phase.{Phase, phase_of}
use Rattle.homing.specs.Moving.{running_leg}
use Rattle.cells.specs.Cells.{axis_in}
use Rattle.simulator.specs.Run.{phase_on, way_of, stopped}
use Rattle.simulator.specs.Stretch.{goes_on}
use Rattle.simulator.proofs.Phases.{same-goes, other-phase, phase-on}
use Rattle.simulator.proofs.Stretches.{one-tick, left-off, begun, not-begun, move-fits, move-near}
use Rattle.simulator.proofs.stretch.Goals as goal

pub returns-then-has_stopped-clause-led : goal.returns-then-has_stopped-clause-led
returns-then-has_stopped-clause-led c =
    let t = c.args.trip.now in
    let l = c.args.axis.now in
    let e = c.phase-phase.ensures ∙ sym (phase-on l) in
    let s = ap stopped (sym e) ∙ sym c.if-has_stopped.ensures in
    let z : t.ticks - t.ticks ≡ 0 = omega arith in
    rw z (not-begun t.rail t.ticks (axis_in l) t.cell s)

pub overflow_add-trip : goal.overflow_add-trip
overflow_add-trip c =
    let t = c.loop-trip.trip in
    let w : SFits w64 c.stride_in-stride.result = search rules in
    let x : SFits w64 t.cell = search rules in
    let o = running_leg (phase_of c.phase-phase.result) in
    rw (to_z-of_z w, to_z-of_z x, c.stride_in-stride.ensures, ← c.loop-trip.invariant.rail) (move-fits t.near c.loop-trip-test.true o)

pub invariant_of-trip : goal.invariant_of-trip
invariant_of-trip c =
    let t = c.loop-trip.trip in
    let w : SFits w64 c.stride_in-stride.result = search rules in
    let x : SFits w64 t.cell = search rules in
    let o = running_leg (phase_of c.phase-phase.result) in
    let on = c.loop-trip-test.true in
    rw (to_z-of_z w, to_z-of_z x, c.stride_in-stride.ensures, ← c.loop-trip.invariant.rail, to_z-of_z (move-fits t.near on o)) (record { near = move-near t.near on o })

pub loop-trip-preserved : goal.loop-trip-preserved
loop-trip-preserved c =
    let t = c.loop-trip.trip in
    let f = c.args.trip.now in
    let m = c.phase-phase.result in
    let w : SFits w64 c.stride_in-stride.result = search rules in
    let x : SFits w64 t.cell = search rules in
    let o = running_leg (phase_of m) in
    let a = axis_in c.loop-trip.axis in
    let same = c.loop-trip.invariant.rail in
    let on = phase-on c.loop-trip.axis ∙ sym c.phase.ensures ∙ ap phase_of c.if-phase.true in
    let g = ap (goes_on (phase_of m)) on ∙ same-goes (phase_of m) (sym c.if-has_stopped.ensures) in
    let moved = move-fits t.near c.loop-trip-test.true o in
    let to : t.cell +ℤ way_of t.rail o ≡ t.cell +ℤ way_of t.rail (running_leg (phase_on a)) = ap (λ (k : Phase). t.cell +ℤ way_of t.rail (running_leg k)) (sym on) in
    record {
      rail = same;
      few = omega arith;
      led = rw (c.tick.ensures, to_z-of_z w, to_z-of_z x, c.stride_in-stride.ensures, ← same, to_z-of_z moved, to_z-of_z moved, to)
          (rw (← same) at c.loop-trip.invariant.led ∙ one-tick (phase_of m) t.rail a t.cell f.ticks t.ticks c.loop-trip-test.true c.loop-trip.invariant.few g);
    }

pub returns-else-phase-clause-led : goal.returns-else-phase-clause-led
returns-else-phase-clause-led c =
    let t = c.loop-trip.trip in
    let f = c.args.trip.now in
    let m = c.phase-phase.result in
    let l = c.args.axis.now in
    let e = c.phase-phase.ensures ∙ sym (phase-on l) in
    let g = ap (goes_on (phase_of m)) (phase-on c.loop-trip.axis ∙ sym c.phase.ensures) ∙ other-phase m c.phase.result c.if-phase.false in
    begun f.rail f.ticks (axis_in l) f.cell (sym e)
    (c.loop-trip.invariant.led ∙ left-off (phase_of m) f.rail (axis_in c.loop-trip.axis) t.cell t.ticks (f.ticks - t.ticks) g)
