-- Products by the 16-bit halves of their factors.
-- Assumes nothing.
use Prim.Native.Nat.{ℕ, ◌+◌, ◌*◌, ◌/◌, ◌%◌, ◌^◌, ◌≤◌}
use mathlib.Core.Path.{◌≡◌, ap, ◌∙◌}
use native.Mathlib.Nat.{mul-le-mul, mul-le-mul_left, mul-le-mul_right, mul-add, mul_assoc, mul_comm, mul_right_comm, div-add-mod'}
use native.Mathlib.Omega.{arith}

pub bound : (a b m n : ℕ) → a ≤ m → b ≤ n → a * b ≤ m * n
bound a b m n h k = mul-le-mul h k

-- by the halves of the second factor
pub halves : (l g : ℕ) → g / 2 ^ 16 * l * 2 ^ 16 + g % 2 ^ 16 * l ≡ l * g
halves l g = split (g / 2 ^ 16) (g % 2 ^ 16) ∙ ap (λ (k : ℕ). l * k) (div-add-mod' g (2 ^ 16))
  where
    split : (h k : ℕ) → h * l * 2 ^ 16 + k * l ≡ l * (h * 2 ^ 16 + k)
    split h k = rw (mul-add l (h * 2 ^ 16) k, ← mul_assoc l h (2 ^ 16), mul_comm h l, mul_comm k l)

-- three of the four products of both factors' halves, the two in the middle without their lower parts
abbrev pub upper_parts : ℕ → ℕ → ℕ
upper_parts p r = p / 2 ^ 16 * (r / 2 ^ 16) + p / 2 ^ 16 * (r % 2 ^ 16) / 2 ^ 16 + p % 2 ^ 16 * (r / 2 ^ 16) / 2 ^ 16

upper-parts : (p r : ℕ) → upper_parts p r * 2 ^ 32 ≤ p * r
upper-parts p r =
    omega (arith, halves p r, halves (r / 2 ^ 16) p, halves (r % 2 ^ 16) p, mul_comm p (r / 2 ^ 16), mul_comm p (r % 2 ^ 16))

-- so with r at most 2^32 over d they are at most p over d
pub never-more : (p d r : ℕ) → r * d ≤ 2 ^ 32 → upper_parts p r * d ≤ p
never-more p d r h =
    let scaled = mul-le-mul_right {m = upper_parts p r * 2 ^ 32} {n = p * r} d (upper-parts p r) in
    let divided = mul-le-mul_left {m = r * d} {n = 2 ^ 32} p h in
    omega (arith, scaled, divided, mul_right_comm (upper_parts p r) (2 ^ 32) d, mul_assoc p r d)
