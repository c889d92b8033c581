-- `cells::begin` meets its contract.
-- Assumes nothing.
use Rattle.cells.proofs.Laws.{begun}
use Rattle.cells.proofs.begin.Goals as goal

pub returns : goal.returns
returns c = begun _ c.lent.ensures _
