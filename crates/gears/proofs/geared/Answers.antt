-- `gears::geared` meets its contract: what it divides is within 2 ^ 56 (`Product`).
-- Assumes nothing.
use Prim.Native.Nat.{◌^◌, ◌≤◌}
use mathlib.Core.Path.{◌∙◌}
use native.Mathlib.Omega.{arith}
use mir.Facts.{to_z-of_z}
use mir.Syntax.{w32}
use mir.Val.{SFits}
use Rattle.gears.specs.Gear.{geared_of}
use Rattle.gears.proofs.Product.{product-fits, product-read, product_small}
use borrow.Author.Rules.{rules}
use Rattle.gears.proofs.geared.Goals as goal

pub overflow_mul-units : goal.overflow_mul-units
overflow_mul-units c = let h : c.capped.result ≤ 2 ^ 20 = omega arith in search (product-fits, rules)

pub floored-requires : goal.floored-requires
floored-requires c =
    let offset : SFits w32 c.args.s.offset = search rules in
    product_small {k = c.capped.result} c.ranges.position offset (omega arith)

pub returns : goal.returns
unfolding geared_of
returns c =
    let offset : SFits w32 c.args.s.offset = search rules in
    to_z-of_z {w = w32} {z = c.floored.result} (search rules)
    ∙ c.floored.ensures
    ∙ rw (product-read {k = c.capped.result} c.ranges.position offset (omega arith), c.capped.ensures, c.divisor.ensures)
