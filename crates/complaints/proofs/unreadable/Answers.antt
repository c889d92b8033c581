-- `complaints::unreadable` meets its contract: part after part.
-- Assumes nothing.
use Rattle.page.proofs.Printing.{and_then}
use Rattle.complaints.proofs.unreadable.Goals as goal

pub returns : goal.returns
returns c = rw c.expected.ensures at (and_then _ _ _ _ _ c.line_and_column.ensures c.text.ensures)
