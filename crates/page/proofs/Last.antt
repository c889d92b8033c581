-- A number's text, and its last digit apart: the higher digits come before it, or there are none.
-- Assumes nothing.
use Prim.Native.Nat.{ℕ, zero, suc, ◌-◌, ◌/◌, ◌%◌}
use mathlib.Core.Bool.{Bool, true, false, ◌||◌}
use mathlib.Core.List.{[], ◌∷◌, ◌++◌}
use mathlib.Core.Path.{◌≡◌, refl}
use native.Mathlib.Nat.{suc-sub-suc, sub-zero}
use lib.Dec.{leb}
use Rattle.numerals.specs.Writing.{glyph, digits}

pub no_digits : (base : ℕ) (zeros : Bool) (n : ℕ) → digits base zeros 0 n ≡ []
unfolding digits
no_digits base zeros n = refl

pub higher_and_last : (base : ℕ) (zeros : Bool) (places n : ℕ) → (places ≡ 0 → ⊥) → (zeros || leb base n) ≡ true
    → digits base zeros places n ≡ digits base zeros (places - 1) (n / base) ++ (glyph (n % base) ∷ [])
unfolding digits
higher_and_last base zeros zero n h e = absurd (h refl)
higher_and_last base zeros (suc places) n h e = rw (e, suc-sub-suc places 0, sub-zero places)

pub last_alone : (base : ℕ) (zeros : Bool) (places n : ℕ) → (places ≡ 0 → ⊥) → (zeros || leb base n) ≡ false
    → digits base zeros places n ≡ glyph (n % base) ∷ []
unfolding digits
last_alone base zeros zero n h e = absurd (h refl)
last_alone base zeros (suc places) n h e = rw e
