-- A floor compared with a number, without a division: n / d < k exactly where n < k * d.
-- Assumes nothing.
use Prim.Native.Nat.{ℕ, zero, suc, ◌*◌, ◌/◌, ◌<◌}
use mathlib.Core.Path.{◌≡◌, refl, sym, ◌∙◌}
use mathlib.Core.Bool.{Bool, true, false, ◌&&◌}
use native.Mathlib.Nat.{div-lt_iff_lt-mul, le-div_iff_mul-le}
use native.Mathlib.Omega.{arith}
use borrow.Author.Tests.{lt-ltb, le-ltb, le-leb, ltb-true, ltb-false}
use lib.Dec.{ltb, leb-suc-suc}
use lib.IntN.{ℤ, pos, negsuc, neg_ℤ}
use lib.Signed.{le_z, lt_z}
use Rattle.counts.specs.Divide.{floor_div}

-- −m is at most every natural number, and at most −(n + 1) where n < m
up : (m n : ℕ) → le_z (neg_ℤ (pos m)) (pos n) ≡ true
up zero n = le-leb 0 n (omega arith)
up (suc m) n = refl

down : (m n : ℕ) → le_z (neg_ℤ (pos m)) (negsuc n) ≡ ltb n m
down zero n = sym (le-ltb n 0 (omega arith))
down (suc m) n = sym (leb-suc-suc n m)

module _ (d : ℕ) (h : 0 < d) where
  quotient : (n k : ℕ) → ltb (n / d) k ≡ ltb n (k * d)
  quotient n k = go (ltb n (k * d)) refl
    where
      go : (t : Bool) → ltb n (k * d) ≡ t → ltb (n / d) k ≡ t
      go true e = lt-ltb (n / d) k ((div-lt_iff_lt-mul h).1 (ltb-true n (k * d) e))
      go false e = le-ltb (n / d) k ((le-div_iff_mul-le h).1 (ltb-false n (k * d) e))

  low : (x : ℤ) (k : ℕ) → le_z (neg_ℤ (pos k)) (floor_div x d) ≡ le_z (neg_ℤ (pos (k * d))) x
  unfolding floor_div
  low (pos n) k = up k (n / d) ∙ sym (up (k * d) n)
  low (negsuc n) k = down k (n / d) ∙ quotient n k ∙ sym (down (k * d) n)

  high : (x : ℤ) (k : ℕ) → le_z (floor_div x d) (pos k) ≡ lt_z x (pos (suc k * d))
  unfolding floor_div
  high (pos n) k = sym (leb-suc-suc (n / d) k) ∙ quotient n (suc k)
  high (negsuc n) k = refl

  -- within k either way
  pub within : (x : ℤ) (k : ℕ) → le_z (neg_ℤ (pos k)) (floor_div x d) && le_z (floor_div x d) (pos k) ≡ le_z (neg_ℤ (pos (k * d))) x && lt_z x (pos (suc k * d))
  within x k = rw (low x k, high x k)
