-- `simulator::route_in` meets its contract.
-- Assumes nothing.
use mathlib.Core.Path.{sym}
use Rattle.homing.proofs.Phases.{runs}
use Rattle.simulator.proofs.route_in.Goals as goal

pub returns-then-is_running : goal.returns-then-is_running
returns-then-is_running c = rw (runs c.args.phase (sym c.if-is_running.ensures))
