-- Laws of the narrow gear: the difference of two numbers by their biased values, and what becomes of units below the offset.
-- Assumes nothing.
use Prim.Native.Nat.{ℕ, zero, suc, ◌+◌, ◌-◌, ◌*◌, ◌^◌, ◌≤◌, ◌<◌}
use mathlib.Core.Path.{◌≡◌, refl, sym, ap}
use mathlib.Core.Bool.{Bool, true, false}
use native.Mathlib.Nat.{zero-mul}
use native.Mathlib.Omega.{arith}
use borrow.Author.Tests.{lt-ltb, le-ltb, ltb-true, ltb-false}
use lib.Dec.{ltb, leb, leb-suc-suc}
use lib.IntN.{ℤ, pos, negsuc, neg_ℤ, sub_ℕ, ◌-ℤ◌, ◌*ℤ◌}
use mir.Syntax.{w32}
use mir.Val.{SFits}
use Rattle.counts.specs.Fits.{fits}
use Rattle.gears.specs.Narrow.{biased_of}

-- a difference stands where its two parts move alike
moved : (a b c d : ℕ) → a + d ≡ c + b → sub_ℕ a b ≡ sub_ℕ c d
moved a b c d h = go (ltb a b) refl
  where
    go : (t : Bool) → ltb a b ≡ t → sub_ℕ a b ≡ sub_ℕ c d
    go true e = let l = ltb-true a b e in rw (e, lt-ltb c d (omega arith)) (ap negsuc (omega arith))
    go false e = let l = ltb-false a b e in rw (e, le-ltb c d (omega arith)) (ap pos (omega arith))

apart : (a b : ℤ) → SFits w32 a → SFits w32 b → a -ℤ b ≡ sub_ℕ (biased_of a) (biased_of b)
apart (pos a) (pos zero) h k = rw (le-ltb (a + 2 ^ 31) (0 + 2 ^ 31) (omega arith)) (ap pos (omega arith))
apart (pos a) (pos (suc b)) h k = moved a (suc b) (a + 2 ^ 31) (suc b + 2 ^ 31) (omega arith)
apart (pos a) (negsuc b) h k = rw (le-ltb (a + 2 ^ 31) (2 ^ 31 - suc b) (omega arith)) (ap pos (omega (arith, k.sfits)))
apart (negsuc a) (pos zero) h k = moved 0 (suc a) (2 ^ 31 - suc a) (0 + 2 ^ 31) (omega (arith, h.sfits))
apart (negsuc a) (pos (suc b)) h k = rw (lt-ltb (2 ^ 31 - suc a) (suc b + 2 ^ 31) (omega arith)) (ap negsuc (omega (arith, h.sfits)))
apart (negsuc a) (negsuc b) h k =
    moved (suc b) (suc a) (2 ^ 31 - suc a) (2 ^ 31 - suc b) (omega (arith, h.sfits, k.sfits))

less : (m n : ℕ) → m < n → negsuc (n - suc m) ≡ neg_ℤ (pos (n - m))
less m n h = go (n - m) (omega arith)
  where
    go : (k : ℕ) → n - suc m + 1 ≡ k → negsuc (n - suc m) ≡ neg_ℤ (pos k)
    go zero e = absurd (omega arith)
    go (suc k) e = ap negsuc (omega arith)

module _ {a b : ℤ} {m n : ℕ} (h : SFits w32 a) (k : SFits w32 b) (p : m ≡ biased_of a) (q : n ≡ biased_of b) where
  pub apart-up : n ≤ m → a -ℤ b ≡ pos (m - n)
  apart-up l = rw (apart a b h k, ← p, ← q, le-ltb m n l)

  pub apart-down : m < n → a -ℤ b ≡ neg_ℤ (pos (n - m))
  apart-down l = rw (apart a b h k, ← p, ← q, lt-ltb m n l) (less m n l)

pub fits-down : (n : ℕ) → fits 32 (neg_ℤ (pos n)) ≡ leb n (2 ^ 31)
unfolding fits
fits-down zero = refl
fits-down (suc n) = sym (leb-suc-suc n (2 ^ 31 - 1))

pub times_down : (u n : ℕ) → neg_ℤ (pos u) *ℤ pos n ≡ neg_ℤ (pos (u * n))
times_down zero n = rw (zero-mul n)
times_down (suc u) n = refl
