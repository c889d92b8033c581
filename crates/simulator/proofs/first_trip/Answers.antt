-- `simulator::first_trip` meets its contract: a run that may be made begins near enough for its ticks.
-- Assumes nothing.
use Rattle.counts.proofs.Integers.{read_wide}
use Rattle.carriage.proofs.Fitting.{fitting}
use Rattle.simulator.proofs.Runs.{admitted, begins-near}
use Rattle.simulator.proofs.first_trip.Goals as goal

pub overflow_sub-result : goal.overflow_sub-result
overflow_sub-result c =
    let a = c.args in
    (fitting a.rail a.start a.ticks (admitted a.rail a.s a.start a.ticks c.requires).fits).ticks.least

pub invariant_of-result : goal.invariant_of-result
invariant_of-result c =
    let a = c.args in
    rw (read_wide c.ranges.start) (record { near = begins-near a.rail a.start a.ticks (fitting a.rail a.start a.ticks (admitted a.rail a.s a.start a.ticks c.requires).fits) })
