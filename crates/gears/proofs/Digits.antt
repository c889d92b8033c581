-- Long division: a number is divided digit by digit, and what is left over from the digits above stands in front of the next.
-- Assumes nothing.
use Prim.Native.Nat.{ℕ, ◌+◌, ◌*◌, ◌/◌, ◌%◌, ◌^◌, ◌≤◌, ◌<◌}
use mathlib.Core.Path.{◌≡◌, sym, ap, ◌∙◌}
use native.Mathlib.Nat.{add-mul, div-add-mod', div-lt_iff_lt-mul, mod-lt, mul-add-div_right, mul_right_comm}
use native.Mathlib.Omega.{arith}
use mir.Syntax.{w32}
use mir.Val.{Fits}

module _ {d : ℕ} (h : 0 < d) where
  -- the one law, in any base
  next-digit : (a k b : ℕ) → (a * k + b) / d ≡ a / d * k + (a % d * k + b) / d
  next-digit a k b = ap (λ (n : ℕ). n / d) regrouped ∙ mul-add-div_right h (a / d * k) (a % d * k + b)
    where
      regrouped : a * k + b ≡ a / d * k * d + (a % d * k + b)
      regrouped =
          let split : a * k ≡ a / d * d * k + a % d * k = ap (λ (n : ℕ). n * k) (sym (div-add-mod' a d)) ∙ add-mul (a / d * d) (a % d) k in
          omega (arith, split, mul_right_comm (a / d) d k)

  -- a digit of the quotient, in base 2 ^ 12
  digit : (a b : ℕ) → (a % d * 2 ^ 12 + b % 2 ^ 12) / d < 2 ^ 12
  digit a b = (div-lt_iff_lt-mul h).1 (omega (arith, mod-lt a h))

-- p over d in three steps: the first divides p without its low 24 bits, the others divide these
abbrev mid : ℕ → ℕ → ℕ
mid p d = p / 2 ^ 24 % d * 2 ^ 12 + p / 2 ^ 12 % 2 ^ 12

abbrev low : ℕ → ℕ → ℕ
low p d = mid p d % d * 2 ^ 12 + p % 2 ^ 12

module _ (p : ℕ) {d : ℕ} (h : 0 < d) where
  first : p / d ≡ p / 2 ^ 24 / d * 2 ^ 24 + (p / 2 ^ 24 % d * 2 ^ 24 + p % 2 ^ 24) / d
  first = ap (λ (n : ℕ). n / d) (omega arith) ∙ next-digit h (p / 2 ^ 24) (2 ^ 24) (p % 2 ^ 24)

  others : (p / 2 ^ 24 % d * 2 ^ 24 + p % 2 ^ 24) / d ≡ mid p d / d * 2 ^ 12 + low p d / d
  others = ap (λ (n : ℕ). n / d) (omega arith) ∙ next-digit h (mid p d) (2 ^ 12) (p % 2 ^ 12)

  pub three-steps : p / 2 ^ 24 / d % 2 ^ 8 * 2 ^ 24 + mid p d / d * 2 ^ 12 + low p d / d ≡ p / d % 2 ^ 32
  three-steps = omega (arith, first, others, digit h (p / 2 ^ 24) (p / 2 ^ 12), digit h (mid p d) p)

-- what the steps compute fits 32 bits, whatever digits they take
module _ {d : ℕ} (h : 0 < d) (most : d ≤ 2 ^ 20) where
  pub left-fits : (a : ℕ) → Fits w32 (a % d * 2 ^ 12)
  left-fits a = record { fits = omega (arith, mod-lt a h) }

  pub joined-fits : (a b : ℕ) → Fits w32 (a % d * 2 ^ 12 + b % 2 ^ 12)
  joined-fits a b = record { fits = omega (arith, mod-lt a h) }

module _ {d : ℕ} (h : 0 < d) where
  pub digit-fits : (a b : ℕ) → Fits w32 ((a % d * 2 ^ 12 + b % 2 ^ 12) / d * 2 ^ 12)
  digit-fits a b = record { fits = omega (arith, digit h a b) }

  pub two-fit : (t a b : ℕ) → Fits w32 (t % 2 ^ 8 * 2 ^ 24 + (a % d * 2 ^ 12 + b % 2 ^ 12) / d * 2 ^ 12)
  two-fit t a b = record { fits = omega (arith, digit h a b) }

  pub three-fit : (t a b e f : ℕ) → Fits w32 (t % 2 ^ 8 * 2 ^ 24 + (a % d * 2 ^ 12 + b % 2 ^ 12) / d * 2 ^ 12 + (e % d * 2 ^ 12 + f % 2 ^ 12) / d)
  three-fit t a b e f = record { fits = omega (arith, digit h a b, digit h e f) }

pub ruleset steps-fit = (left-fits, joined-fits, digit-fits, two-fit, three-fit)
