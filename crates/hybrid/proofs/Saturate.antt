-- A clamp between two i32 gives the same of a number and of the number brought into the i32 range first.
-- Assumes nothing.
use Rattle.std.proofs.Common.{◌≡◌, ℕ, zero, suc, ◌-◌, ◌^◌, ◌≤◌, min, Bool, true, false, cond, ltb, ℤ, pos, negsuc, neg_ℤ, sym, refl, ap, ◌∙◌, arith, w32, SFits, ltb-false, ltb-true, le-ltb}
use lib.Signed.{mag, lt_z}
use Rattle.counts.specs.Clamp.{clamped}
use Rattle.hybrid.specs.Hybrid.{saturated}

-- from 2 ^ 31 − 1 on a clamp gives its upper bound, and from −2 ^ 31 down its lower one
not-above : (z : ℤ) (n : ℕ) → mag z ≤ n → lt_z (pos n) z ≡ false
not-above (pos a) n h = le-ltb n a h
not-above (negsuc a) n h = refl

not_below : (z : ℤ) (n : ℕ) → mag z ≤ n → lt_z z (negsuc n) ≡ false
not_below (pos a) n h = refl
not_below (negsuc a) n h = le-ltb n a h

upper : (z : ℤ) (n : ℕ) → mag z ≤ n → cond (lt_z z (pos n)) z (pos n) ≡ z
upper (negsuc a) n h = refl
upper (pos a) n h = go (ltb a n) refl
  where
    go : (t : Bool) → ltb a n ≡ t → cond t (pos a) (pos n) ≡ pos a
    go true e = refl
    go false e = ap pos (omega (arith, ltb-false a n e))

lower : (z : ℤ) (n : ℕ) → mag z ≤ n → cond (lt_z (negsuc n) z) z (negsuc n) ≡ z
lower (pos a) n h = refl
lower (negsuc a) n h = go (ltb a n) refl
  where
    go : (t : Bool) → ltb a n ≡ t → cond t (negsuc a) (negsuc n) ≡ negsuc a
    go true e = refl
    go false e = ap negsuc (omega (arith, ltb-false a n e))

module _ (low high : ℤ) (l : SFits w32 low) (h : SFits w32 high) where
  at_top : (n : ℕ) → 2 ^ 31 - 1 ≤ n → clamped (pos n) low high ≡ high
  unfolding clamped
  at_top n k = rw (not-above low n (omega (arith, l.sfits))) (upper high n (omega (arith, h.sfits)))

  at-bottom : (n : ℕ) → 2 ^ 31 - 1 ≤ n → clamped (negsuc n) low high ≡ low
  unfolding clamped
  at-bottom n k = rw (not_below high n (omega (arith, h.sfits))) (lower low n (omega (arith, l.sfits)))

  pub clamp_saturated : (z : ℤ) → clamped (saturated z) low high ≡ clamped z low high
  unfolding saturated clamped
  clamp_saturated (pos n) = go (ltb (2 ^ 31 - 1) n) refl
    where
      go : (t : Bool) → ltb (2 ^ 31 - 1) n ≡ t → clamped (cond t (pos (2 ^ 31 - 1)) (pos n)) low high ≡ clamped (pos n) low high
      go true e = at_top (2 ^ 31 - 1) (omega arith) ∙ sym (at_top n (omega (arith, ltb-true (2 ^ 31 - 1) n e)))
      go false e = refl
  clamp_saturated (negsuc n) = go (ltb (2 ^ 31 - 1) n) refl
    where
      go : (t : Bool) → ltb (2 ^ 31 - 1) n ≡ t → clamped (cond t (negsuc (2 ^ 31 - 1)) (negsuc n)) low high ≡ clamped (negsuc n) low high
      go true e = at-bottom (2 ^ 31 - 1) (omega arith) ∙ sym (at-bottom n (omega (arith, ltb-true (2 ^ 31 - 1) n e)))
      go false e = refl

-- a size capped at 2 ^ 31, with its sign
minus : (k : ℕ) → neg_ℤ (pos (min k (2 ^ 31))) ≡ saturated (neg_ℤ (pos k))
unfolding saturated clamped
minus zero = refl
minus (suc k) = go (ltb (2 ^ 31 - 1) k) refl
  where
    go : (t : Bool) → ltb (2 ^ 31 - 1) k ≡ t → neg_ℤ (pos (min (suc k) (2 ^ 31))) ≡ cond t (negsuc (2 ^ 31 - 1)) (negsuc k)
    go true e =
        let i : min (suc k) (2 ^ 31) ≡ 2 ^ 31 = omega (arith, ltb-true (2 ^ 31 - 1) k e) in
        rw i
    go false e =
        let i : min (suc k) (2 ^ 31) ≡ suc k = omega (arith, ltb-false (2 ^ 31 - 1) k e) in
        rw i

plus : (k : ℕ) → pos (min (min k (2 ^ 31)) (2 ^ 31 - 1)) ≡ saturated (pos k)
unfolding saturated clamped
plus k = go (ltb (2 ^ 31 - 1) k) refl
  where
    go : (t : Bool) → ltb (2 ^ 31 - 1) k ≡ t → pos (min (min k (2 ^ 31)) (2 ^ 31 - 1)) ≡ cond t (pos (2 ^ 31 - 1)) (pos k)
    go true e = ap pos (omega (arith, ltb-true (2 ^ 31 - 1) k e))
    go false e = ap pos (omega (arith, ltb-false (2 ^ 31 - 1) k e))

pub saturates : (s : Bool) (k : ℕ) → cond s (neg_ℤ (pos (min k (2 ^ 31)))) (pos (min (min k (2 ^ 31)) (2 ^ 31 - 1))) ≡ saturated (cond s (neg_ℤ (pos k)) (pos k))
saturates true k = minus k
saturates false k = plus k
