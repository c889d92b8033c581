-- `writer::tops` meets its contract: each has four bits at most.
-- Assumes nothing.
use Prim.Native.Nat.{ℕ, ◌<◌}
use mathlib.Core.Path.{◌≡◌}
use native.Mathlib.Omega.{arith}
use lib.Dec.{eqb}
use lib.IntN.{ℤ}
use Rattle.words.specs.Encode.{top_of}
use Rattle.words.proofs.Bits.{top_below, small}
use Rattle.writer.proofs.tops.Goals as goal

bits4 : {r : ℕ} (layout : ℕ) (z : ℤ) → r ≡ top_of layout z → r < 16
bits4 layout z e = rw e (small (eqb layout 1) (top_below (eqb layout 1) z))

pub overflow_mul-result : goal.overflow_mul-result
overflow_mul-result c = omega (arith, bits4 _ _ c.top-lower.ensures)

pub overflow_add-result : goal.overflow_add-result
overflow_add-result c = omega (arith, bits4 _ _ c.top-offset.ensures, bits4 _ _ c.top-lower.ensures)

pub overflow_mul-result-2 : goal.overflow_mul-result-2
overflow_mul-result-2 c = omega (arith, bits4 _ _ c.top-upper.ensures)

pub overflow_add-result-2 : goal.overflow_add-result-2
overflow_add-result-2 c = omega (arith, bits4 _ _ c.top-offset.ensures, bits4 _ _ c.top-lower.ensures, bits4 _ _ c.top-upper.ensures)
