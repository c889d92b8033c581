-- `complaints::line_and_column` meets its contract: part after part.
-- Assumes nothing.
use Rattle.page.proofs.Printing.{and_then}
use Rattle.complaints.proofs.line_and_column.Goals as goal

pub returns : goal.returns
returns c = and_then _ _ _ _ _ c.named.ensures c.named-2.ensures
