-- `writer::top` meets its contract: above 28 bits, layout 1 has nothing.
-- Assumes nothing.
use mathlib.Core.Bool.{true}
use native.Mathlib.Omega.{arith}
use borrow.Author.Tests.{eq-eqb}
use Rattle.words.proofs.Bits.{top_below}
use Rattle.writer.proofs.top.Goals as goal

pub returns-then-layout-eq1 : goal.returns-then-layout-eq1
returns-then-layout-eq1 c = rw (eq-eqb _ 1 c.if-layout-eq1.true) (omega (arith, top_below true c.args.position))
