-- `axis::under::homing_after` meets its contract.
-- Assumes nothing.
use Rattle.axis.proofs.Branches.{stops}
use Rattle.axis.proofs.under.homing_after.Goals as goal

pub returns-else-on : goal.returns-else-on
returns-else-on c = rw c.if-on.false (stops _ c.args.inputs.now.tick _ c.out_of_homing.ensures)
