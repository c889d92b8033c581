-- `simulator::run` meets its contract.
-- Assumes nothing.
use Rattle.std.proofs.Common.{sym, ◌∙◌, to_z-of_z}
use Rattle.simulator.proofs.Runs.{refused-by}
use Rattle.simulator.proofs.run.Goals as goal

pub returns-in-Err : goal.returns-in-Err
returns-in-Err c =
    let a = c.args in
    let v = rw (to_z-of_z c.ranges.start) at c.in-Err.ensures in
    c.refused.ensures ∙ refused-by a.rail a.s a.start a.ticks c.in-Err.refusal (sym v)
