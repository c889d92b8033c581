-- `cells::pending_settings` meets its contract.
-- Assumes nothing.
use Rattle.cells.proofs.pending_settings.Goals as goal

pub returns : goal.returns
returns c = rw (c.decode.ensures, c.tops.ensures, c.first_values-values.ensures)
