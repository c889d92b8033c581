-- `cells::copy_values` meets its contract: before turn i the words of kinds 1 to i − 1 are copied.
-- Assumes nothing.
use Rattle.std.proofs.Common.{arith}
use Rattle.cells.proofs.Laws.{copied_more}
use Rattle.cells.proofs.copy_values.Goals as goal

pub loop-i-preserved : goal.loop-i-preserved
loop-i-preserved c =
    (omega arith, omega arith, copied_more c.args.axis.now c.loop-i.axis c.loop-i.i c.loop-i.invariant.0 c.loop-i.invariant.2)
