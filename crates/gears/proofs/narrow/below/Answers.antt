-- `gears::narrow::below` meets its contract: below the offset the product is not positive.
-- Assumes nothing.
use Prim.Native.Nat.{◌*◌, ◌^◌}
use mathlib.Core.Path.{◌≡◌}
use native.Mathlib.Omega.{arith}
use borrow.Author.Tests.{le-leb, lt-leb}
use mir.Facts.{to_z-of_z}
use mir.Syntax.{w32}
use mir.Val.{SFits}
use Rattle.gears.specs.Narrow.{narrowed}
use Rattle.gears.proofs.Units.{fits-down, times_down}
use borrow.Author.Rules.{rules}
use Rattle.gears.proofs.narrow.below.Goals as goal

pub returns-then-units-gt2147483648 : goal.returns-then-units-gt2147483648
unfolding narrowed
returns-then-units-gt2147483648 c = let u = c.args.units in rw (fits-down u, lt-leb u (2 ^ 31) c.if-units-gt2147483648.true)

pub returns-then-p-gt2147483648 : goal.returns-then-p-gt2147483648
unfolding narrowed
returns-then-p-gt2147483648 c =
    let s = c.args in
    rw (
      times_down s.units s.numerator,
      fits-down s.units,
      fits-down (s.units * s.numerator),
      le-leb s.units (2 ^ 31) (omega arith),
      lt-leb (s.units * s.numerator) (2 ^ 31) (omega arith),
    )

pub returns : goal.returns
unfolding narrowed
returns c =
    let p = c.product-p in
    let s = c.args in
    let e : p.result ≡ s.units * s.numerator = omega arith in
    let r : SFits w32 c.floored_below.result = search rules in
    rw (
      to_z-of_z r,
      c.floored_below.ensures,
      e,
      c.divisor.ensures,
      times_down s.units s.numerator,
      fits-down s.units,
      fits-down (s.units * s.numerator),
      le-leb s.units (2 ^ 31) (omega arith),
      le-leb (s.units * s.numerator) (2 ^ 31) (omega arith),
    )
