-- `straight::print` meets its contract: the page was on these bytes, and so they hold what it showed at last.
-- Assumes nothing.
use Rattle.std.proofs.Common.{rules}
use Rattle.page.proofs.Bytes.{lent}
use Rattle.page.proofs.straight.print.Goals as goal

pub returns : goal.returns
returns c = lent _ _ _ c.new-page.result c.text.new.self _ c.new-page.ensures c.text.ensures (search rules)
