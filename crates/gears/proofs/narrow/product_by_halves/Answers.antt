-- `gears::narrow::product_by_halves` meets its contract: `top` and the low 16 bits are the product, and `top` tells where it is beyond.
-- Assumes nothing.
use native.Mathlib.Omega.{arith}
use Rattle.gears.proofs.Halves.{halves}
use Rattle.gears.proofs.narrow.product_by_halves.Goals as goal
use Rattle.gears.proofs.narrow.product_by_halves.Goals.{Else-lesser-ge65536}

pub returns-then-top-gt32768 : goal.returns-then-top-gt32768
returns-then-top-gt32768 c = let s = c.args in omega (arith, halves s.lesser s.greater)

pub returns-else-top-gt32768 : goal.returns-else-top-gt32768
returns-else-top-gt32768 c = let s = c.args in omega (arith, halves s.lesser s.greater)
