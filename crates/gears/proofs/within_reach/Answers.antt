-- `gears::within_reach` meets its contract: product and bounds fit 64 bits, and the law `within` compares the floor.
-- Assumes nothing.
use Prim.Native.Nat.{suc, ◌^◌, ◌≤◌}
use mathlib.Core.Path.{sym}
use native.Mathlib.Omega.{arith}
use mir.Facts.{to_z-of_z}
use mir.Syntax.{w32}
use lib.IntN.{pos, neg_ℤ}
use mir.Val.{SFits}
use Rattle.counts.proofs.Integers.{read-unsigned}
use Rattle.gears.specs.Gear.{geared_of}
use Rattle.gears.proofs.Product.{product-fits, product-read, times-fits}
use Rattle.gears.proofs.Reach.{within}
use borrow.Author.Rules.{rules}
use Rattle.gears.proofs.within_reach.Goals as goal

pub overflow_mul-product : goal.overflow_mul-product
overflow_mul-product c = let h : c.capped.result ≤ 2 ^ 20 = omega arith in search (product-fits, rules)

pub returns : goal.returns
unfolding geared_of
returns c =
    let offset : SFits w32 c.args.s.offset = search rules in
    let d = c.divisor-d.result.value in
    rw (
      product-read {k = c.capped.result} c.ranges.position offset (omega arith),
      to_z-of_z (times-fits {z = neg_ℤ (pos (2 ^ 30))} {d = d} (search rules) (search rules)),
      to_z-of_z (times-fits {z = pos (suc (2 ^ 30))} {d = d} (search rules) (search rules)),
      read-unsigned d (search rules),
      ← c.capped.ensures,
      ← c.divisor-d.ensures,
    )
    (sym (within d (omega arith) _ (2 ^ 30)))
