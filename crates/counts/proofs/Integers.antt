-- Signed numbers as the machine holds them, and bounds on their sums, differences and products. `mag z` is n for n and for −(n + 1).
-- Assumes nothing.
use mathlib.Core.Path.{◌≡◌, refl, ap}
use mathlib.Core.Bool.{Bool, true, false, cond}
use Prim.Native.Nat.{ℕ, zero, suc, ◌+◌, ◌-◌, ◌*◌, ◌^◌, ◌≤◌, ◌<◌}
use native.Mathlib.Nat.{zero-add, mul-le-mul}
use native.Mathlib.Omega.{arith}
use lib.Dec.{ltb}
use lib.IntN.{ℤ, pos, negsuc, neg_ℤ, ◌+ℤ◌, ◌-ℤ◌, ◌*ℤ◌}
use lib.Signed.{mag}
use mir.Facts.{to_z-of_z}
use mir.Syntax.{Width, w32, w64}
use mir.Val.{SFits, to_z, of_z}
use mir.ValLaws.{to_z_pos}
use borrow.Author.Tests.{le-ltb}

-- an i32 read as an i64, and a u32 read as an i64
pub widen : {z : ℤ} → SFits w32 z → SFits w64 z
widen h = omega (arith, h.sfits)

abbrev pub wide : ℤ → ℤ
wide z = to_z w64 (of_z w64 (to_z w32 (of_z w32 z)))

pub read_wide : {z : ℤ} → SFits w32 z → wide z ≡ z
read_wide h = rw (to_z-of_z h) (to_z-of_z (widen h))

pub read-unsigned : (n : ℕ) → n < 2 ^ 32 → to_z w64 n ≡ pos n
read-unsigned n h = to_z_pos w64 n (omega arith)

-- a − b for naturals, by the test that it makes
mag-cond : (t : Bool) (a b n : ℕ) → a < n → b ≤ n → mag (cond t (negsuc (b - suc a)) (pos (a - b))) < n
mag-cond true a b n p q = omega arith
mag-cond false a b n p q = omega arith

pub mag-add : (a b : ℤ) (n : ℕ) → mag a + mag b + 1 < n → mag (a +ℤ b) < n
mag-add (pos a) (pos b) n h = omega arith
mag-add (pos a) (negsuc b) n h = mag-cond (ltb a (suc b)) a (suc b) n (omega arith) (omega arith)
mag-add (negsuc a) (pos b) n h = mag-cond (ltb b (suc a)) b (suc a) n (omega arith) (omega arith)
mag-add (negsuc a) (negsuc b) n h = omega arith

mag-neg : (b : ℤ) → mag (neg_ℤ b) ≤ mag b + 1
mag-neg (pos zero) = omega arith
mag-neg (pos (suc b)) = omega arith
mag-neg (negsuc b) = omega arith

pub mag-sub : (a b : ℤ) (n : ℕ) → mag a + mag b + 2 < n → mag (a -ℤ b) < n
mag-sub a b n h = mag-add a (neg_ℤ b) n (omega (arith, mag-neg b))

-- a difference of two i32 fits an i64
pub sub-fits : {a b : ℤ} → SFits w32 a → SFits w32 b → SFits w64 (a -ℤ b)
sub-fits {a} {b} h k = record { sfits = mag-sub a b (2 ^ 63) (omega (arith, h.sfits, k.sfits)) }

pub mag-neg-pos : (n : ℕ) → mag (neg_ℤ (pos n)) ≤ n
mag-neg-pos zero = omega arith
mag-neg-pos (suc n) = omega arith

pub mag-mul : (a : ℤ) (k m n : ℕ) → mag a < m → k ≤ n → mag (a *ℤ pos k) ≤ m * n
mag-mul (pos a) k m n p q = mul-le-mul (omega arith) q
mag-mul (negsuc a) k m n p q =
    let h : suc a * k ≤ m * n = mul-le-mul (omega arith) q in
    omega (arith, mag-neg-pos (suc a * k))

-- −1 less z: it turns the negative numbers into the others and back
pub mirror-down : (n : ℕ) → negsuc 0 -ℤ negsuc n ≡ pos n
mirror-down n = rw (le-ltb (suc n) 1 (omega arith)) (ap pos (omega arith))

pub mirror-up : (n : ℕ) → negsuc 0 -ℤ pos n ≡ negsuc n
mirror-up zero = refl
mirror-up (suc n) = ap (λ (k : ℕ). negsuc (suc k)) (zero-add n)

mag-mirror : (z : ℤ) → mag (negsuc 0 -ℤ z) ≡ mag z
mag-mirror (pos n) = rw (mirror-up n)
mag-mirror (negsuc n) = rw (mirror-down n)

pub mirror-fits : {w : Width} {z : ℤ} → SFits w z → SFits w (negsuc 0 -ℤ z)
mirror-fits {w} {z} h = record { sfits = rw (mag-mirror z) h.sfits }
