-- NaN patterns, and how far nine digits reach.
-- Assumes nothing.
use Rattle.std.proofs.Common.{◌≡◌, ℕ, suc, ◌+◌, ◌*◌, ◌/◌, ◌%◌, ◌^◌, ◌<◌, ◌≤◌, Bool, true, false, not, eqb, mul-le-mul_right, suc-mul, arith, pow-add, eqb-true}
use native.Mathlib.Nat.{pow-le-pow_right}
use borrow.Author.Tests.{not-true}
use Rattle.std.proofs.lemmas.Bool.{and_parts}
use lib.Ieee.{nan, binary32, of_bits, of_fields, nan_bits, top, hid}

nan-fields : (s : Bool) (x t : ℕ) → x ≡ 255 → eqb t 0 ≡ false → of_fields binary32 s x t ≡ nan
unfolding of_fields
nan-fields s x t e z = rw (e, z)

pub nan_pattern : (b : ℕ) → nan_bits binary32 b ≡ true → of_bits binary32 b ≡ nan
unfolding of_bits nan_bits
nan_pattern b e =
    let x = b % top binary32 / hid binary32 in
    let t = b % hid binary32 in
    let parts = and_parts (eqb x 255) (not (eqb t 0)) e in
    nan-fields _ x t (eqb-true x 255 parts.0) (not-true (eqb t 0) parts.1)

-- at most nine digits in all
pub joined_below : (n m a b : ℕ) → n < 10 ^ a → m < 10 ^ b → a + b ≤ 9 → n * 10 ^ b + m < 10 ^ 9
joined_below n m a b h k l =
    let p : suc n * 10 ^ b ≤ 10 ^ a * 10 ^ b = mul-le-mul_right (10 ^ b) h in
    let q : 10 ^ (a + b) ≤ 10 ^ 9 = pow-le-pow_right (omega arith) l in
    omega (arith, suc-mul n (10 ^ b), pow-add 10 a b)

pub nine_below : (n a : ℕ) → n < 10 ^ a → a ≤ 9 → n < 10 ^ 9
nine_below n a h l = let q : 10 ^ a ≤ 10 ^ 9 = pow-le-pow_right (omega arith) l in omega arith
