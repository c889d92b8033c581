-- `axis::under::torque_in` meets its contract.
-- Assumes nothing.
use Rattle.torque.specs.Torque.{torque_of}
use Rattle.axis.proofs.under.torque_in.Goals as goal

pub returns-else-on : goal.returns-else-on
unfolding torque_of
returns-else-on c = rw c.if-on.false
