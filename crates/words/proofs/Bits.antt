-- Offset and limits of 28 or 32 bits, b saying which: the low 28 in one word, those above in another. Two torque limits in one word, an option and a torque
-- in one.
-- Assumes nothing.
use Prim.Native.Nat.{ℕ, suc, ◌+◌, ◌-◌, ◌*◌, ◌/◌, ◌%◌, ◌^◌, ◌<◌, ◌≤◌}
use mathlib.Core.Path.{◌≡◌, refl, ap}
use mathlib.Core.Bool.{Bool, true, false, cond}
use native.Mathlib.Omega.{arith}
use borrow.Author.Tests.{lt-ltb, ltb-true, ltb-false, leb-true}
use lib.Dec.{ltb}
use lib.IntN.{ℤ, pos, negsuc}
use Rattle.counts.specs.Fits.{fits}
use Rattle.counts.specs.Wrap.{modulo, signed}
use Rattle.counts.proofs.Fits.{bits, mag-fits, fits-mag}
use Rattle.ranges.specs.Range.{torque_ok}
use Rattle.words.specs.Encode.{limit_set}

-- what holds of both readings holds of `signed`
pub signed_is : (P : ℤ → Type 0) (b : Bool) (x : ℕ) → x < 2 ^ bits b → (x < 2 ^ (bits b - 1) → P (pos x)) → (2 ^ (bits b - 1) ≤ x → P (negsuc (2 ^ bits b - suc x))) → P (signed (bits b) x)
unfolding signed
signed_is P b x k f g = go b (ltb x (2 ^ (bits b - 1))) refl k f g
  where
    go : (b t : Bool) → ltb x (2 ^ (bits b - 1)) ≡ t → x < 2 ^ bits b → (x < 2 ^ (bits b - 1) → P (pos x)) → (2 ^ (bits b - 1) ≤ x → P (negsuc (2 ^ bits b - suc x))) → P (signed (bits b) x)
    go true true e k f g = rw e (f (ltb-true x (2 ^ 27) e))
    go true false e k f g = rw (e, lt-ltb x (2 ^ 28) k) (g (ltb-false x (2 ^ 27) e))
    go false true e k f g = rw e (f (ltb-true x (2 ^ 31) e))
    go false false e k f g = rw (e, lt-ltb x (2 ^ 32) k) (g (ltb-false x (2 ^ 31) e))

-- written: how large the parts are
pub low_below : (z : ℤ) → modulo 28 z < 2 ^ 28
unfolding modulo
low_below (pos n) = omega arith
low_below (negsuc n) = omega arith

pub top_below : (b : Bool) (z : ℤ) → modulo (bits b) z / 2 ^ 28 < cond b 1 16
unfolding modulo
top_below true (pos n) = omega arith
top_below true (negsuc n) = omega arith
top_below false (pos n) = omega arith
top_below false (negsuc n) = omega arith

pub small : (b : Bool) {t : ℕ} → t < cond b 1 16 → t < 16
small true h = omega arith
small false h = h

-- the low bits and those above are all bits
pub low_of : (b : Bool) (z : ℤ) → modulo (bits b) z % 2 ^ 28 ≡ modulo 28 z
unfolding modulo
low_of true (pos n) = omega arith
low_of true (negsuc n) = omega arith
low_of false (pos n) = omega arith
low_of false (negsuc n) = omega arith

whole : (b : Bool) (z : ℤ) → modulo 28 z + modulo (bits b) z / 2 ^ 28 * 2 ^ 28 ≡ modulo (bits b) z
whole b z = omega (arith, low_of b z)

-- written and read
read : (b : Bool) (z : ℤ) → fits (bits b) z ≡ true → signed (bits b) (modulo (bits b) z % 2 ^ bits b) ≡ z
unfolding modulo
read true (pos n) e =
    let h = fits-mag true (pos n) e in signed_is (λ y. y ≡ pos n) true _ (omega arith) (λ l. ap pos (omega arith)) (λ l. absurd (omega arith))
read true (negsuc n) e =
    let h = fits-mag true (negsuc n) e in signed_is (λ y. y ≡ negsuc n) true _ (omega arith) (λ l. absurd (omega arith)) (λ l. ap negsuc (omega arith))
read false (pos n) e =
    let h = fits-mag false (pos n) e in signed_is (λ y. y ≡ pos n) false _ (omega arith) (λ l. ap pos (omega arith)) (λ l. absurd (omega arith))
read false (negsuc n) e =
    let h = fits-mag false (negsuc n) e in signed_is (λ y. y ≡ negsuc n) false _ (omega arith) (λ l. absurd (omega arith)) (λ l. ap negsuc (omega arith))

pub position-read : (b : Bool) (z : ℤ) (t : ℕ) → t ≡ modulo (bits b) z / 2 ^ 28 → fits (bits b) z ≡ true
    → signed (bits b) ((modulo 28 z + t * 2 ^ 28) % 2 ^ bits b) ≡ z
position-read b z t q e = rw (q, whole b z) (read b z e)

-- read and written
module _ (x t : ℕ) (h : x < 2 ^ 28) where
  pub position-low : (b : Bool) → t < cond b 1 16 → modulo 28 (signed (bits b) ((x + t * 2 ^ 28) % 2 ^ bits b)) ≡ x
  unfolding modulo
  position-low true k = signed_is (λ z. modulo 28 z ≡ x) true _ (omega arith) (λ l. omega arith) (λ l. omega arith)
  position-low false k = signed_is (λ z. modulo 28 z ≡ x) false _ (omega arith) (λ l. omega arith) (λ l. omega arith)

  pub position-top : (b : Bool) → t < cond b 1 16 → modulo (bits b) (signed (bits b) ((x + t * 2 ^ 28) % 2 ^ bits b)) / 2 ^ 28 ≡ t
  unfolding modulo
  position-top true k = signed_is (λ z. modulo 28 z / 2 ^ 28 ≡ t) true _ (omega arith) (λ l. omega arith) (λ l. omega arith)
  position-top false k = signed_is (λ z. modulo 32 z / 2 ^ 28 ≡ t) false _ (omega arith) (λ l. omega arith) (λ l. omega arith)

pub position-fits : (b : Bool) (n : ℕ) → fits (bits b) (signed (bits b) (n % 2 ^ bits b)) ≡ true
position-fits true n =
    signed_is (λ z. fits 28 z ≡ true) true _ (omega arith) (λ l. mag-fits true (pos (n % 2 ^ 28)) l) (λ l. mag-fits true (negsuc (2 ^ 28 - suc (n % 2 ^ 28))) (omega arith))
position-fits false n =
    signed_is (λ z. fits 32 z ≡ true) false _ (omega arith) (λ l. mag-fits false (pos (n % 2 ^ 32)) l) (λ l. mag-fits false (negsuc (2 ^ 32 - suc (n % 2 ^ 32))) (omega arith))

-- the tops of three positions in one word
module _ (a b c : ℕ) (h : a < 16) (i : b < 16) (j : c < 16) where
  pub tops-offset : (a + b * 2 ^ 4 + c * 2 ^ 8) % 2 ^ 4 ≡ a
  tops-offset = omega arith

  pub tops-lower : (a + b * 2 ^ 4 + c * 2 ^ 8) / 2 ^ 4 % 2 ^ 4 ≡ b
  tops-lower = omega arith

  pub tops-upper : (a + b * 2 ^ 4 + c * 2 ^ 8) / 2 ^ 8 % 2 ^ 4 ≡ c
  tops-upper = omega arith

  pub tops-below : a + b * 2 ^ 4 + c * 2 ^ 8 < 2 ^ 12
  tops-below = omega arith

-- two limits in one word
module _ (p n : ℕ) (h : torque_ok p ≡ true) where
  pub set-low : limit_set p n % 2 ^ 14 ≡ p
  set-low = omega (arith, leb-true p 3000 h)

  pub set-high : limit_set p n / 2 ^ 14 ≡ n
  set-high = omega (arith, leb-true p 3000 h)

  pub set_below : torque_ok n ≡ true → limit_set p n < 2 ^ 28
  set_below k = omega (arith, leb-true p 3000 h, leb-true n 3000 k)

pub set_both : (x : ℕ) → limit_set (x % 2 ^ 14) (x / 2 ^ 14) ≡ x
set_both x = omega arith

-- an option and a homing torque in one word
module _ (torque option : ℕ) (h : torque_ok torque ≡ true) (o : option < 2 ^ 8) where
  pub pair-option : (torque * 2 ^ 8 + option) % 2 ^ 8 ≡ option
  pair-option = omega arith

  pub pair-torque : (torque * 2 ^ 8 + option) / 2 ^ 8 % 2 ^ 12 ≡ torque
  pair-torque = omega (arith, leb-true torque 3000 h)

  pub pair-below : torque * 2 ^ 8 + option < 2 ^ 20
  pair-below = omega (arith, leb-true torque 3000 h)

pub pair-both : (x : ℕ) → x < 2 ^ 20 → x / 2 ^ 8 % 2 ^ 12 * 2 ^ 8 + x % 2 ^ 8 ≡ x
pair-both x h = omega arith
