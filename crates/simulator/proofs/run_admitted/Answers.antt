-- `simulator::run_admitted` meets its contract.
-- Assumes nothing.
use Rattle.std.proofs.Common.{◌+◌, sym, ap, ◌∙◌, to_z-of_z}
use Rattle.simulator.specs.Run.{stop_of, ran}
use Rattle.simulator.proofs.Phases.{phase-on}
use Rattle.simulator.proofs.Runs.{ridden-to}
use Rattle.simulator.proofs.run_admitted.Goals as goal

pub returns : goal.returns
returns c =
    let a = c.args in
    let st = c.stop_in-stop.ensures ∙ ap stop_of (c.phase.ensures ∙ sym (phase-on c.ride-later.new.axis)) in
    let t = c.first_trip.ensures in
    let b = rw (to_z-of_z c.ranges.start) at c.begin.ensures in
    let e = rw (t.rail, t.ticks, t.cell, to_z-of_z c.ranges.start, b) at c.ride-later.ensures.cell_value in
    ap (ran (c.ride-later.result + 1)) st ∙ ridden-to a.rail a.s a.start a.ticks _ c.requires e
