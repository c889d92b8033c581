-- `gears::narrow::above` meets its contract: at and above the offset the product is a natural number, and its quotient the floor.
-- Assumes nothing.
use Prim.Native.Nat.{◌*◌, ◌^◌, ◌<◌}
use mathlib.Core.Path.{◌≡◌}
use native.Mathlib.Nat.{div-le_self}
use native.Mathlib.Omega.{arith}
use borrow.Author.Tests.{lt-ltb, le-ltb}
use mir.Facts.{to_z_pos}
use mir.Syntax.{w32}
use Rattle.counts.specs.Divide.{floor_div}
use Rattle.counts.specs.Fits.{fits}
use Rattle.gears.specs.Narrow.{narrowed}
use Rattle.gears.proofs.narrow.above.Goals as goal

pub returns-then-units-gt2147483647 : goal.returns-then-units-gt2147483647
unfolding narrowed fits
returns-then-units-gt2147483647 c = rw (le-ltb c.args.units (2 ^ 31) (omega arith))

pub returns-then-p-gt2147483647 : goal.returns-then-p-gt2147483647
unfolding narrowed fits
returns-then-p-gt2147483647 c =
    let s = c.args in
    rw (lt-ltb s.units (2 ^ 31) (omega arith), le-ltb (s.units * s.numerator) (2 ^ 31) (omega arith))

pub returns : goal.returns
unfolding narrowed fits floor_div
returns c =
    let p = c.product-p in
    let s = c.args in
    let e : p.result ≡ s.units * s.numerator = omega arith in
    let small : c.over.result < 2 ^ 31 = omega (arith, c.over.ensures, div-le_self p.result c.divisor.result.value) in
    rw (
      to_z_pos w32 small,
      c.over.ensures,
      e,
      c.divisor.ensures,
      lt-ltb s.units (2 ^ 31) (omega arith),
      lt-ltb (s.units * s.numerator) (2 ^ 31) (omega arith),
    )
