-- `gears::narrow::estimate` meets its contract: it is at most the product with the reciprocal over 2 ^ 32 (`never-more`).
-- Assumes nothing.
use Rattle.gears.proofs.Halves.{never-more}
use Rattle.gears.proofs.narrow.estimate.Goals as goal

pub returns : goal.returns
returns c = never-more c.args.p c.args.d.value c.reciprocal-r.result c.reciprocal-r.ensures
