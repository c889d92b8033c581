-- On settings in range the gear's guards change nothing.
-- Assumes nothing.
use Prim.Native.Nat.{◌^◌}
use mathlib.Core.Path.{◌≡◌}
use mathlib.Core.Bool.{true}
use native.Mathlib.Omega.{arith}
use borrow.Author.Tests.{leb-true}
use lib.Dec.{leb}
use lib.IntN.{ℤ}
use Rattle.settings.specs.declared.Settings.{Settings}
use Rattle.settings.specs.Ranges.{in_range}
use Rattle.gears.specs.Gear.{capped_numerator, divisor_of, geared_of, plain_gear}
use Rattle.settings.proofs.Within.{within, both}

module _ (s : Settings) (e : in_range s ≡ true) where
  pub numerator-kept : capped_numerator s ≡ s.numerator
  numerator-kept =
      let b = both (leb 1 s.numerator) (leb s.numerator (2 ^ 20)) (within s e).numerator in
      omega (arith, leb-true s.numerator (2 ^ 20) b.1)

  pub denominator-kept : divisor_of s.denominator ≡ s.denominator
  denominator-kept =
      let b = both (leb 1 s.denominator) (leb s.denominator (2 ^ 20)) (within s e).denominator in
      omega (arith, leb-true 1 s.denominator b.0, leb-true s.denominator (2 ^ 20) b.1)

  pub gear-plain : (position : ℤ) → geared_of s position ≡ plain_gear s position
  unfolding geared_of
  gear-plain position = rw (numerator-kept, denominator-kept)
