-- What a signed range's `contains` tells, in the tests that the definitions use.
-- Assumes nothing.
use Rattle.std.proofs.Common.{◌≡◌, Bool, true, false, cond, ℤ, pos, negsuc, refl, arith}
use Rattle.std.specs.Ordering.{is_lt, is_le, int_cmp}
use Rattle.std.specs.declared.cmp.Ordering.TheVariants.{Less, Equal, Greater}
use Rattle.std.specs.Int.Signed.{lt_z, le_z}
use Rattle.std.proofs.lemmas.Bool.Decides.{nat_tests}

pub lt_told : (a b : ℤ) → is_lt (int_cmp a b) ≡ lt_z a b
lt_told a b = go (lt_z a b) (lt_z b a)
  where
    go : (x y : Bool) → is_lt (cond x Less (cond y Greater Equal)) ≡ x
    go true y = refl
    go false true = refl
    go false false = refl

pub le_told : (a b : ℤ) → is_le (int_cmp a b) ≡ le_z a b
le_told (pos a) (pos b) = grind (arith, nat_tests)
le_told (pos a) (negsuc b) = grind (arith, nat_tests)
le_told (negsuc a) (pos b) = grind (arith, nat_tests)
le_told (negsuc a) (negsuc b) = grind (arith, nat_tests)
