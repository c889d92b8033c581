-- Laws of `modulo`, `signed` and `wrapped`.
-- Assumes nothing.
use mathlib.Core.Path.{◌≡◌, refl, sym, ap, ◌∙◌}
use mathlib.Core.Bool.{Bool, true, false, cond}
use Prim.Native.Nat.{ℕ, suc, ◌+◌, ◌-◌, ◌*◌, ◌%◌, ◌^◌, ◌≤◌, ◌<◌}
use native.Mathlib.Omega.{arith}
use lib.Dec.{ltb}
use lib.IntN.{ℤ, pos, negsuc, sub_ℕ, ◌+ℤ◌, ◌-ℤ◌, -ℤ-+ℤ_cancel}
use lib.Signed.{shr_z}
use mir.Syntax.{w32, w64}
use mir.Val.{SFits, to_z, of_z}
use borrow.Author.Tests.{lt-ltb, le-ltb, ltb-true, ltb-false}
use Rattle.counts.specs.Wrap.{modulo, signed, wrapped}
use Rattle.counts.proofs.Integers.{mirror-up, mirror-down}

pub modulo-below : (z : ℤ) → modulo 32 z < 2 ^ 32
unfolding modulo
modulo-below (pos n) = omega arith
modulo-below (negsuc n) = omega arith

-- 32 bits below and from 2 ^ 31 on
signed_low : (n : ℕ) → n < 2 ^ 31 → signed 32 n ≡ pos n
unfolding signed
signed_low n h = rw (lt-ltb n (2 ^ 31) h)

signed_high : (n : ℕ) → 2 ^ 31 ≤ n → n < 2 ^ 32 → signed 32 n ≡ negsuc (2 ^ 32 - suc n)
unfolding signed
signed_high n h k = rw (le-ltb n (2 ^ 31) h, lt-ltb n (2 ^ 32) k)

-- what holds of both readings holds of `signed 32 n`
signed_is : (P : ℤ → Type 0) (n : ℕ) → n < 2 ^ 32 → (n < 2 ^ 31 → P (pos n)) → (2 ^ 31 ≤ n → P (negsuc (2 ^ 32 - suc n))) → P (signed 32 n)
signed_is P n k f g = go (ltb n (2 ^ 31)) refl
  where
    go : (t : Bool) → ltb n (2 ^ 31) ≡ t → P (signed 32 n)
    go true e = let h = ltb-true n (2 ^ 31) e in rw (signed_low n h) (f h)
    go false e = let h = ltb-false n (2 ^ 31) e in rw (signed_high n h k) (g h)

pub wrapped-fits : (z : ℤ) → SFits w32 (wrapped z)
unfolding wrapped
wrapped-fits z =
    signed_is (λ y. SFits w32 y) (modulo 32 z) (modulo-below z) (λ h. record { sfits = h }) (λ h. record { sfits = omega arith })

-- 64 bits shifted up by 32 places and down again with the sign leave the low 32 bits, read as signed
shifted : (n : ℕ) → shr_z (to_z w64 (n * 2 ^ 32 % 2 ^ 64)) (2 ^ 32) ≡ signed 32 (n % 2 ^ 32)
shifted n =
    signed_is (λ y. shr_z (to_z w64 (n * 2 ^ 32 % 2 ^ 64)) (2 ^ 32) ≡ y) (n % 2 ^ 32) (omega arith)
    (λ h. simp (lt-ltb (n * 2 ^ 32 % 2 ^ 64) (2 ^ 63) (omega arith)) (ap pos (omega arith)))
    (λ h. simp (le-ltb (n * 2 ^ 32 % 2 ^ 64) (2 ^ 63) (omega arith)) (ap negsuc (omega arith)))

low_bits : (z : ℤ) → SFits w64 z → of_z w64 z % 2 ^ 32 ≡ modulo 32 z
unfolding modulo
low_bits (pos n) h = refl
low_bits (negsuc n) h = omega (arith, h.sfits)

pub wrapped-shift : (z : ℤ) → SFits w64 z → shr_z (to_z w64 (of_z w64 z * 2 ^ 32 % 2 ^ 64)) (2 ^ 32) ≡ wrapped z
unfolding wrapped
wrapped-shift z h = shifted (of_z w64 z) ∙ ap (signed 32) (low_bits z h)

-- the bits of a number are the number modulo 2 ^ 32, and they are read as signed
pub bits-modulo : (z : ℤ) → SFits w32 z → of_z w32 z ≡ modulo 32 z
unfolding modulo
bits-modulo (pos n) h = omega (arith, h.sfits)
bits-modulo (negsuc n) h = omega (arith, h.sfits)

pub read-signed : (n : ℕ) → n < 2 ^ 32 → to_z w32 n ≡ signed 32 n
read-signed n k =
    signed_is (λ y. to_z w32 n ≡ y) n k (λ h. rw (lt-ltb n (2 ^ 31) h)) (λ h. rw (le-ltb n (2 ^ 31) h))

-- a sum modulo 2 ^ 32 takes each part modulo 2 ^ 32
modulo-sub : (a b : ℕ) → modulo 32 (sub_ℕ a (suc b)) ≡ (modulo 32 (pos a) + modulo 32 (negsuc b)) % 2 ^ 32
unfolding modulo
modulo-sub a b = go (ltb a (suc b)) refl
  where
    go : (t : Bool) → ltb a (suc b) ≡ t → modulo 32 (cond t (negsuc (suc b - suc a)) (pos (a - suc b))) ≡ (a % 2 ^ 32 + (2 ^ 32 - suc (b % 2 ^ 32))) % 2 ^ 32
    go true e = let h = ltb-true a (suc b) e in omega arith
    go false e = let h = ltb-false a (suc b) e in omega arith

modulo-add : (a b : ℤ) → modulo 32 (a +ℤ b) ≡ (modulo 32 a + modulo 32 b) % 2 ^ 32
unfolding modulo
modulo-add (pos a) (pos b) = omega arith
modulo-add (pos a) (negsuc b) = modulo-sub a b
modulo-add (negsuc a) (pos b) = modulo-sub b a ∙ omega arith
modulo-add (negsuc a) (negsuc b) = omega arith

-- so the machine's sum and difference are the wrapped ones
module _ (a b : ℤ) (h : SFits w32 a) (k : SFits w32 b) where
  pub sum-wraps : to_z w32 ((of_z w32 a + of_z w32 b) % 2 ^ 32) ≡ wrapped (a +ℤ b)
  unfolding wrapped
  sum-wraps =
      rw (bits-modulo a h, bits-modulo b k)
      (read-signed ((modulo 32 a + modulo 32 b) % 2 ^ 32) (omega arith) ∙ ap (signed 32) (sym (modulo-add a b)))

  pub difference-wraps : to_z w32 ((of_z w32 a + (2 ^ 32 - of_z w32 b)) % 2 ^ 32) ≡ wrapped (a -ℤ b)
  unfolding wrapped
  difference-wraps =
      let e : (modulo 32 (a -ℤ b) + modulo 32 b) % 2 ^ 32 ≡ modulo 32 a = sym (modulo-add (a -ℤ b) b) ∙ ap (modulo 32) (-ℤ-+ℤ_cancel a b) in
      rw (bits-modulo a h, bits-modulo b k)
      (read-signed ((modulo 32 a + (2 ^ 32 - modulo 32 b)) % 2 ^ 32) (omega arith)
      ∙ ap (signed 32) (omega (arith, e, modulo-below (a -ℤ b), modulo-below b)))

modulo-wrapped : (z : ℤ) → modulo 32 (wrapped z) ≡ modulo 32 z
unfolding modulo wrapped
modulo-wrapped z =
    let h = modulo-below z in
    signed_is (λ y. modulo 32 y ≡ modulo 32 z) (modulo 32 z) h (λ k. omega arith) (λ k. omega arith)

pub wrapped_sum : (a b : ℤ) → wrapped (a +ℤ wrapped b) ≡ wrapped (a +ℤ b)
unfolding wrapped
wrapped_sum a b =
    ap (signed 32)
    (modulo-add a (wrapped b) ∙ ap (λ (n : ℕ). (modulo 32 a + n) % 2 ^ 32) (modulo-wrapped b) ∙ sym (modulo-add a b))

-- a number may be taken modulo 2 ^ 32 first
pub wrapped-low : (n : ℕ) → wrapped (pos (n % 2 ^ 32)) ≡ wrapped (pos n)
unfolding wrapped modulo
wrapped-low n = ap (signed 32) (omega arith)

-- 32 bits cast to signed are wrapped
pub cast-wrapped : (n : ℕ) → n < 2 ^ 32 → to_z w32 n ≡ wrapped (pos n)
unfolding wrapped modulo
cast-wrapped n h = read-signed n h ∙ ap (signed 32) (omega arith)

-- −1 less z, which is z with every bit turned, may be taken before or after
pub wrapped-mirror : (n : ℕ) → negsuc 0 -ℤ wrapped (pos n) ≡ wrapped (negsuc n)
unfolding wrapped modulo
wrapped-mirror n =
    signed_is (λ y. negsuc 0 -ℤ y ≡ signed 32 (2 ^ 32 - suc (n % 2 ^ 32))) (n % 2 ^ 32) (omega arith)
    (λ h. rw (mirror-up (n % 2 ^ 32), signed_high (2 ^ 32 - suc (n % 2 ^ 32)) (omega arith) (omega arith)) (ap negsuc (omega arith)))
    (λ h. rw (mirror-down (2 ^ 32 - suc (n % 2 ^ 32)), signed_low (2 ^ 32 - suc (n % 2 ^ 32)) (omega arith)))
