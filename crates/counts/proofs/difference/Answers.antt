-- `counts::difference` meets its contract: std's difference wraps as the definition does.
-- Assumes nothing.
use Rattle.counts.proofs.Modulo.{difference-wraps}
use Rattle.counts.proofs.difference.Goals as goal

pub returns : goal.returns
returns c = difference-wraps c.args.now c.args.before c.ranges.now c.ranges.before
