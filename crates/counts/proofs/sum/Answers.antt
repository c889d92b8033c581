-- `counts::sum` meets its contract: std's sum wraps as the definition does.
-- Assumes nothing.
use Rattle.counts.proofs.Modulo.{sum-wraps}
use Rattle.counts.proofs.sum.Goals as goal

pub returns : goal.returns
returns c = sum-wraps c.args.base c.args.count c.ranges.base c.ranges.count
