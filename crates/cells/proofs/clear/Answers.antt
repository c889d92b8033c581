-- `cells::clear` meets its contract.
-- Assumes nothing.
use Rattle.std.proofs.Common.{refl}
use Rattle.cells.proofs.Laws.{cleared}
use Rattle.cells.proofs.clear.Goals as goal

pub returns : goal.returns
returns c = record { axis = cleared; words = refl }
