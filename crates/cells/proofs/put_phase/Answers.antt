-- `cells::put_phase` meets its contract.
-- Assumes nothing.
use Rattle.cells.proofs.Laws.{phased-words}
use Rattle.cells.proofs.put_phase.Goals as goal

pub returns : goal.returns
returns c = phased-words _ c.lent.ensures c.args.phase
