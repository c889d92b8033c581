-- `cells::empty` meets its contract.
-- Assumes nothing.
use Rattle.cells.proofs.Laws.{emptying}
use Rattle.cells.proofs.empty.Goals as goal

pub returns : goal.returns
returns c = emptying _ c.lent.ensures
