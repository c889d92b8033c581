-- `gears::narrow::floored_below` meets its contract: −p is −((p − 1) + 1), whose floor is −((p − 1) / d + 1).
-- Assumes nothing.
use Prim.Native.Nat.{ℕ, zero, suc, ◌-◌, ◌/◌, ◌<◌}
use mathlib.Core.Path.{◌≡◌, ap}
use native.Mathlib.Nat.{div-le_self, zero-div}
use native.Mathlib.Omega.{arith}
use lib.IntN.{pos, negsuc, neg_ℤ}
use mir.Facts.{to_z-of_z, to_z_pos}
use mir.Syntax.{w32}
use mir.Val.{SFits, to_z}
use Rattle.counts.specs.Divide.{floor_div}
use Rattle.counts.proofs.Integers.{mirror-up}
use Rattle.gears.proofs.narrow.floored_below.Goals as goal

floor-below : (p d : ℕ) → 0 < p → negsuc ((p - 1) / d) ≡ floor_div (neg_ℤ (pos p)) d
unfolding floor_div
floor-below zero d h = absurd (omega arith)
floor-below (suc p) d h = ap (λ (k : ℕ). negsuc (k / d)) (omega arith)

-- what over gave
module _ (c : goal.After-over) where
  fits : SFits w32 (pos c.over.result)
  fits = omega (arith, c.over.ensures, div-le_self (c.args.p - 1) c.args.d.value)

  read : to_z w32 c.over.result ≡ pos c.over.result
  read = to_z_pos w32 fits.sfits

pub returns-then-p-eq0 : goal.returns-then-p-eq0
unfolding floor_div
returns-then-p-eq0 c = rw (c.if-p-eq0.true, zero-div c.args.d.value)

pub returns-else-p-eq0 : goal.returns-else-p-eq0
returns-else-p-eq0 c =
    let s = c.args in
    let f : SFits w32 (negsuc c.over.result) = omega (arith, (fits c).sfits) in
    rw (read c, mirror-up, to_z-of_z f, c.over.ensures) (floor-below s.p s.d.value (omega arith))
