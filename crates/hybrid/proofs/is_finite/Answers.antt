-- `hybrid::is_finite` meets its contract, by cases on q.
-- Assumes nothing.
use mathlib.Core.Path.{◌∙◌}
use lib.Ieee.{nan_bits}
use Rattle.hybrid.proofs.Floats.{below-infinity, not-below-infinity}
use Rattle.hybrid.proofs.is_finite.Goals as goal

pub float_from_bits-limit : goal.float_from_bits-limit
unfolding nan_bits
float_from_bits-limit c = tt

pub returns-then-q-limit : goal.returns-then-q-limit
returns-then-q-limit c = below-infinity c.args.q c.if-q-limit.true

pub returns-else-q-limit : goal.returns-else-q-limit
returns-else-q-limit c = c.if-q-limit.false ∙ not-below-infinity c.args.q c.if-q-limit.false
