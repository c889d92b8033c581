-- The value of a digit and the value that the library gives it, range by range.
-- Assumes nothing.
use Prim.Native.Nat.{ℕ, ◌≤◌, ◌<◌}
use mathlib.Core.Path.{◌≡◌, refl}
use native.Mathlib.Omega.{arith}
use mathlib.Core.Bool.{Bool, true, false}
use borrow.Author.Tests.{ltb-true, ltb-false}
use lib.Dec.{ltb}
use Rattle.std.specs.Char as char
use Rattle.spelling.specs.Spelling.{digit_value}

-- below base 16 the library's digits are these
pub library : (b base : ℕ) → base ≤ 16 → char.digit_value b < base → digit_value b ≡ char.digit_value b
unfolding digit_value
library b base h l = grind arith

low : (b base : ℕ) → b < 65 → base ≤ 16 → digit_value b < base → char.digit_value b < base
unfolding digit_value
low b base r h l = grind arith

middle : (b base : ℕ) → 65 ≤ b → b < 97 → base ≤ 16 → digit_value b < base → char.digit_value b < base
unfolding digit_value
middle b base q r h l = grind arith

high : (b base : ℕ) → 97 ≤ b → base ≤ 16 → digit_value b < base → char.digit_value b < base
unfolding digit_value
high b base q h l = grind arith

pub library_back : (b base : ℕ) → base ≤ 16 → digit_value b < base → char.digit_value b < base
library_back b base h l = go (ltb b 65) refl (ltb b 97) refl
  where
    go : (s : Bool) → ltb b 65 ≡ s → (t : Bool) → ltb b 97 ≡ t → char.digit_value b < base
    go true e t f = low b base (ltb-true b 65 e) h l
    go false e true f = middle b base (ltb-false b 65 e) (ltb-true b 97 f) h l
    go false e false f = high b base (ltb-false b 97 f) h l
