-- What a bit pattern stands for: its digits times a power of two. So a shift of the digits is the whole part.
-- Assumes nothing.
use Rattle.std.proofs.Common.{◌≡◌, ℕ, zero, suc, ◌+◌, ◌-◌, ◌*◌, ◌/◌, ◌%◌, ◌^◌, ◌<◌, ◌≤◌, min, Bool, true, false, cond, T, eqb, leb, sym, ap, ◌∙◌, subst, lt_of_lt_of_le, mul_assoc, mul-le-mul, le-div_iff_mul-le, div-le_self, arith, pow_pos, pow_mono, pow-add, shl_lt}
use native.Mathlib.Nat.{div-eq_of_lt}
use lib.Ieee.{Float, nan, inf, binary32, odd, of_fields, of_bits}
use lib.Ieee.Exact.{HasValue, odd_sign}
use lib.Ieee.Nearest.{div_same}
use Rattle.hybrid.specs.Hybrid.{finite, size_of, negative}
use Rattle.hybrid.proofs.Value.{sign-value, size-value}

-- the value of a sign, an exponent's field and the digits below the leading one: in units of 2 ^ −149
low_value : (s : Bool) (t : ℕ) → HasValue (of_fields binary32 s 0 t) s (t * 2 ^ 0) (2 ^ 149)
unfolding of_fields
low_value s t = odd_sign 24 s t 0 149

normal-value : (s : Bool) (x t : ℕ) → finite (of_fields binary32 s (suc x) t) ≡ true → HasValue (of_fields binary32 s (suc x) t) s ((t + 2 ^ 23) * 2 ^ x) (2 ^ 149)
unfolding of_fields
normal-value s x t = go (eqb (suc x) 255) (eqb t 0)
  where
    q : Float
    q = odd 24 s (2 ^ 23 + t) x 149

    go : (a b : Bool) → finite (cond a (cond b (inf s) nan) q) ≡ true → HasValue (cond a (cond b (inf s) nan) q) s ((t + 2 ^ 23) * 2 ^ x) (2 ^ 149)
    go true true h = absurd (subst T (sym h) tt)
    go true false h = absurd (subst T (sym h) tt)
    go false b h =
        let e : 2 ^ 23 + t ≡ t + 2 ^ 23 = omega arith in
        subst (λ (n : ℕ). HasValue q s (n * 2 ^ x) (2 ^ 149)) e (odd_sign 24 s (2 ^ 23 + t) x 149)

-- below 1, within 31 bits, and beyond
none : (a x : ℕ) → a < 2 ^ 24 → x ≤ 125 → a * 2 ^ x / 2 ^ 149 ≡ 0
none a x h k = div-eq_of_lt (lt_of_lt_of_le (shl_lt 24 x h) (pow_mono {j = 149} (omega arith)))

shifted : (a x y : ℕ) → x + y ≡ 156 → a * 128 / 2 ^ y ≡ a * 2 ^ x / 2 ^ 149
shifted a x y e =
    div_same (a * 128) (2 ^ y) (a * 2 ^ x) (2 ^ 149) (pow_pos y) (pow_pos 149)
    (mul_assoc a 128 (2 ^ 149)
    ∙ ap (λ (n : ℕ). a * 2 ^ n) (sym e)
    ∙ ap (λ (n : ℕ). a * n) (pow-add 2 x y)
    ∙ sym (mul_assoc a (2 ^ x) (2 ^ y)))

many : (a x : ℕ) → 2 ^ 23 ≤ a → 157 ≤ x → 2 ^ 31 ≤ a * 2 ^ x / 2 ^ 149
many a x h k = (le-div_iff_mul-le (pow_pos 149)).1 (mul-le-mul h (pow_mono k))

module _ (s : Bool) where
  normal-size : (x t : ℕ) → finite (of_fields binary32 s (suc x) t) ≡ true → size_of (of_fields binary32 s (suc x) t) ≡ (t + 2 ^ 23) * 2 ^ x / 2 ^ 149
  normal-size x t f =
      size-value (of_fields binary32 s (suc x) t) s ((t + 2 ^ 23) * 2 ^ x) (2 ^ 149) (pow_pos 149) (normal-value s x t f)

  size_low : (x t : ℕ) → t < 2 ^ 23 → x < 127 → finite (of_fields binary32 s x t) ≡ true → size_of (of_fields binary32 s x t) ≡ 0
  size_low zero t d h f =
      size-value (of_fields binary32 s 0 t) s (t * 2 ^ 0) (2 ^ 149) (pow_pos 149) (low_value s t) ∙ none t 0 (omega arith) (omega arith)
  size_low (suc x) t d h f =
      normal-size x t f ∙ none (t + 2 ^ 23) x (omega arith) (omega arith)

  size-middle : (x t : ℕ) → 127 ≤ x → x < 158 → finite (of_fields binary32 s x t) ≡ true → size_of (of_fields binary32 s x t) ≡ (t + 2 ^ 23) * 128 / 2 ^ (157 - x)
  size-middle zero t h k f = absurd (omega arith)
  size-middle (suc x) t h k f =
      normal-size x t f ∙ sym (shifted (t + 2 ^ 23) x (157 - suc x) (omega arith))

  size-high : (x t : ℕ) → 158 ≤ x → finite (of_fields binary32 s x t) ≡ true → 2 ^ 31 ≤ size_of (of_fields binary32 s x t)
  size-high zero t h f = absurd (omega arith)
  size-high (suc x) t h f =
      rw (normal-size x t f) (many (t + 2 ^ 23) x (omega arith) (omega arith))

  sign-fields : (x t : ℕ) → finite (of_fields binary32 s x t) ≡ true → negative (of_fields binary32 s x t) ≡ s
  sign-fields zero t f = sign-value (of_fields binary32 s 0 t) s (t * 2 ^ 0) (2 ^ 149) (low_value s t)
  sign-fields (suc x) t f = sign-value (of_fields binary32 s (suc x) t) s ((t + 2 ^ 23) * 2 ^ x) (2 ^ 149) (normal-value s x t f)

-- the same of a pattern
module _ (b : ℕ) (f : finite (of_bits binary32 b) ≡ true) where
  pub bits_low : b % 2 ^ 31 / 2 ^ 23 < 127 → 0 ≡ min (size_of (of_bits binary32 b)) (2 ^ 31)
  unfolding of_bits
  bits_low h = rw (size_low (leb (2 ^ 31) b) (b % 2 ^ 31 / 2 ^ 23) (b % 2 ^ 23) (omega arith) h f)

  pub bits_middle : 127 ≤ b % 2 ^ 31 / 2 ^ 23 → b % 2 ^ 31 / 2 ^ 23 < 158
      → (b % 2 ^ 23 + 2 ^ 23) * 128 / 2 ^ (157 - b % 2 ^ 31 / 2 ^ 23) ≡ min (size_of (of_bits binary32 b)) (2 ^ 31)
  unfolding of_bits
  bits_middle h k =
      rw (size-middle (leb (2 ^ 31) b) (b % 2 ^ 31 / 2 ^ 23) (b % 2 ^ 23) h k f)
      (omega (arith, div-le_self ((b % 2 ^ 23 + 2 ^ 23) * 128) (2 ^ (157 - b % 2 ^ 31 / 2 ^ 23))))

  pub bits_high : 158 ≤ b % 2 ^ 31 / 2 ^ 23 → 2 ^ 31 ≡ min (size_of (of_bits binary32 b)) (2 ^ 31)
  unfolding of_bits
  bits_high h = omega (arith, size-high (leb (2 ^ 31) b) (b % 2 ^ 31 / 2 ^ 23) (b % 2 ^ 23) h f)

  pub bits-sign : negative (of_bits binary32 b) ≡ leb (2 ^ 31) b
  unfolding of_bits
  bits-sign = sign-fields (leb (2 ^ 31) b) (b % 2 ^ 31 / 2 ^ 23) (b % 2 ^ 23) f
