-- The data of settings in range: each fits a word's 28 bits.
-- Assumes nothing.
use Prim.Native.Nat.{ℕ, zero, suc, ◌+◌, ◌-◌, ◌*◌, ◌^◌, ◌<◌}
use mathlib.Core.Path.{◌≡◌, refl}
use mathlib.Core.Bool.{Bool, true, false, cond, ◌||◌}
use mathlib.Core.List.{List, [], ◌∷◌}
use native.Mathlib.Omega.{arith}
use borrow.Author.Tests.{leb-true, eqb-true}
use lib.Dec.{leb, eqb}
use Rattle.settings.specs.declared.Settings.{Settings}
use Rattle.counts.specs.Between.{between}
use Rattle.ranges.specs.Range.{method_ok, torque_ok, option_ok}
use Rattle.settings.specs.Ranges.{in_range}
use Rattle.layouts.specs.Layout.{is_layout, carries_homing_torque}
use Rattle.settings.proofs.Within.{within, both}
use Rattle.words.specs.Encode.{top_of, tops_of, option_data, values_of, below}
use Rattle.words.proofs.Bits.{low_below, top_below, small, tops-below, set_below, pair-below}

-- each is below 2 ^ 28
abbrev pub Below : List ℕ → Type 0
Below [] = Unit {0}
Below (x ∷ xs) = (x < 2 ^ 28) × Below xs

pub below_at : (d : List ℕ) → Below d → below d
below_at [] b i = omega arith
below_at (x ∷ xs) b zero = b.0
below_at (x ∷ xs) b (suc i) = below_at xs b.1 i

-- the upper end of a range
top : (low high x : ℕ) → between low high x ≡ true → x < high + 1
top low high x e = omega (arith, leb-true x high (both (leb low x) (leb x high) e).1)

either-below : (a b : Bool) {x n : ℕ} → (a ≡ true → x < n) → (b ≡ true → x < n) → a || b ≡ true → x < n
either-below true b f g e = f refl
either-below false b f g e = g e

method-below : (m : ℕ) → method_ok m ≡ true → m < 2 ^ 28
unfolding method_ok
method-below m =
    either-below (between 1 2 m || between 17 18 m || between 23 30 m) (between 33 35 m)
    (either-below (between 1 2 m || between 17 18 m) (between 23 30 m)
    (either-below (between 1 2 m) (between 17 18 m) (λ h. omega (arith, top 1 2 m h)) (λ h. omega (arith, top 17 18 m h)))
    (λ h. omega (arith, top 23 30 m h)))
    (λ h. omega (arith, top 33 35 m h))

pub option-below : (x : ℕ) → option_ok x ≡ true → x < 2 ^ 8
option-below x e = either-below (eqb x 2) (eqb x 6) (λ h. omega (arith, eqb-true x 2 h)) (λ h. omega (arith, eqb-true x 6 h)) e

option-data-below : (l : ℕ) (s : Settings) → option_ok s.option ≡ true → torque_ok s.homing ≡ true → option_data l s < 2 ^ 28
option-data-below l s o h = go (carries_homing_torque l)
  where
    go : (b : Bool) → cond b (s.homing * 2 ^ 8 + s.option) s.option < 2 ^ 28
    go true = omega (arith, pair-below s.homing s.option h (option-below s.option o))
    go false = omega (arith, option-below s.option o)

module _ (l : ℕ) (s : Settings) where
  pub tops-small : tops_of l s < 2 ^ 12
  tops-small =
      let b = eqb l 1 in
      tops-below (top_of l s.offset) (top_of l s.lower) (top_of l s.upper) (small b (top_below b s.offset)) (small b (top_below b s.lower))
      (small b (top_below b s.upper))

  pub values-below : is_layout l ≡ true → in_range s ≡ true → Below (values_of l s)
  unfolding values_of
  values-below k e =
      let w = within s e in (
        omega (arith, top 1 3 l k),
        (
          method-below s.method w.method,
          (
            omega (arith, top 1 (2 ^ 28 - 1) s.fast w.fast),
            (
              omega (arith, top 1 (2 ^ 28 - 1) s.slow w.slow),
              (
                low_below s.offset,
                (
                  omega (arith, top 1 (2 ^ 20) s.numerator w.numerator),
                  (
                    omega (arith, top 1 (2 ^ 20) s.denominator w.denominator),
                    (
                      low_below s.lower,
                      (
                        low_below s.upper,
                        (
                          omega (arith, leb-true s.maximum 3000 w.maximum),
                          (
                            set_below s.positive1 s.negative1 w.positive1 w.negative1,
                            (
                              set_below s.positive2 s.negative2 w.positive2 w.negative2,
                              (
                                option-data-below l s w.option w.homing,
                                (
                                  omega (arith, top 1 (2 ^ 24) s.rated w.rated),
                                  (
                                    omega (arith, tops-small),
                                    tt,
                                  ),
                                ),
                              ),
                            ),
                          ),
                        ),
                      ),
                    ),
                  ),
                ),
              ),
            ),
          ),
        ),
      )
