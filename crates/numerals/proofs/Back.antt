-- What is written reads back: a last digit more makes `base` times the number and the digit, in reading as in writing.
-- Assumes nothing.
use Prim.Native.Nat.{ℕ, zero, suc, ◌+◌, ◌*◌, ◌/◌, ◌%◌, ◌^◌, ◌≤◌, ◌<◌}
use mathlib.Core.Bool.{Bool, true, false}
use mathlib.Core.List.{List, [], ◌∷◌, ◌++◌}
use mathlib.Core.Path.{◌≡◌, refl, ap, ◌∙◌}
use native.Mathlib.Nat.{div-add-mod', div-lt_iff_lt-mul, mod-lt, pow-suc}
use native.Mathlib.Omega.{arith}
use borrow.Author.Tests.{lt-ltb, le-leb, leb-true, leb-false}
use lib.Dec.{leb}
use lib.IntN.{ℤ, pos, negsuc}
use lib.ListN.{length, get_or, length-append}
use lib.Signed.{mag}
use Rattle.std.specs.Prelude.{Some}
use Rattle.numerals.specs.Signs.{unsigned_whole, negated_whole, signed_whole}
use Rattle.numerals.specs.Limits.{below_of, unsigned32_of, length_of}
use Rattle.spelling.specs.Spelling.{digit_value, spelled_from, spelled_of, decimal_of}
use Rattle.numerals.specs.Writing.{glyph, hexadecimal, digits, decimal}
use Rattle.numerals.specs.Writing.{whole as written}
use Rattle.spelling.proofs.Reach.{within}
use Rattle.numerals.proofs.Signs.{no_minus}

-- ---- one digit

digit-back : (d : ℕ) → d < 16 → digit_value (glyph d) ≡ d
unfolding digit_value
digit-back d h = grind arith

-- ---- one digit more at the end

spelled-more : (base v : ℕ) (xs : List ℕ) (b n : ℕ) → spelled_from base v xs ≡ Some n → digit_value b < base
    → spelled_from base v (xs ++ (b ∷ [])) ≡ Some (n * base + digit_value b)
unfolding spelled_from
spelled-more base v [] b n e h = rw (lt-ltb (digit_value b) base h) (let s : v ≡ n = cc in rw s)
spelled-more base v (x ∷ xs) b n e h = grind (arith, spelled-more base (v * base + digit_value x) xs b n)

-- the number, its last digit apart
last-back : (base n : ℕ) (xs : List ℕ) → 0 < base → base ≤ 16 → spelled_from base 0 xs ≡ Some (n / base)
    → spelled_from base 0 (xs ++ (glyph (n % base) ∷ [])) ≡ Some n
last-back base n xs p l e =
    let m : n % base < base = mod-lt n p in
    let d : digit_value (glyph (n % base)) ≡ n % base = digit-back (n % base) (omega arith) in
    spelled-more base 0 xs (glyph (n % base)) (n / base) e (rw d m) ∙ ap Some (rw d (div-add-mod' n base))

one_less : (base k n : ℕ) → 0 < base → n < base ^ suc k → n / base < base ^ k
one_less base k n p h = (div-lt_iff_lt-mul p).1 (rw (pow-suc base k) at h)

-- ---- hexadecimal digits

pub hexadecimal-back : (k n : ℕ) → n < 16 ^ k → spelled_from 16 0 (hexadecimal k n) ≡ Some n
unfolding digits spelled_from
hexadecimal-back zero n h = ap Some (omega arith)
hexadecimal-back (suc k) n h =
    last-back 16 n (hexadecimal k (n / 16)) (omega arith) (omega arith) (hexadecimal-back k (n / 16) (one_less 16 k n (omega arith) h))

hexadecimal-length : (k n : ℕ) → length (hexadecimal k n) ≡ k
unfolding digits
hexadecimal-length zero n = refl
hexadecimal-length (suc k) n = length-append (hexadecimal k (n / 16)) (glyph (n % 16) ∷ []) ∙ rw (hexadecimal-length k (n / 16)) (omega arith)

-- as many digits as are read at most
written_back : (k n : ℕ) → 0 < k → n < 16 ^ k → spelled_of 16 k (hexadecimal k n) ≡ Some n
written_back k n p h =
    let l : length (hexadecimal k n) ≡ k = hexadecimal-length k n in
    within 16 k (hexadecimal k n) (omega arith) (omega arith) ∙ hexadecimal-back k n h

pub hexadecimal4-back : (n : ℕ) → n < 2 ^ 16 → spelled_of 16 4 (hexadecimal 4 n) ≡ Some n
hexadecimal4-back n h = written_back 4 n (omega arith) (omega arith)

pub hexadecimal8-back : (n : ℕ) → n < 2 ^ 32 → spelled_of 16 8 (hexadecimal 8 n) ≡ Some n
hexadecimal8-back n h = written_back 8 n (omega arith) (omega arith)

-- ---- decimal digits

-- a number below 10 has one digit, and any other has one more than its tenth
data Shape (k n : ℕ) : Type 0 where
  single : n < 10 → digits 10 false (suc k) n ≡ glyph n ∷ [] → Shape k n
  several : 10 ≤ n → digits 10 false (suc k) n ≡ digits 10 false k (n / 10) ++ (glyph (n % 10) ∷ []) → Shape k n

shape : (k n : ℕ) → Shape k n
unfolding digits
shape k n = go (leb 10 n) refl
  where
    go : (t : Bool) → leb 10 n ≡ t → Shape k n
    go true e = several (leb-true 10 n e) (rw e)
    go false e = let l = leb-false 10 n e in let m : n % 10 ≡ n = omega (arith, l) in single l (rw (e, m))

-- a tenth of a number of two digits or more has one digit less, and has one
tenth : (k n : ℕ) → n < 10 ^ suc k → 10 ≤ n → 0 < k
tenth zero n h l = absurd (omega arith)
tenth (suc k) n h l = omega arith

pub digits-back : (k n : ℕ) → n < 10 ^ k → 0 < k → spelled_from 10 0 (digits 10 false k n) ≡ Some n
unfolding spelled_from
digits-back zero n h p = absurd (omega arith)
digits-back (suc k) n h p = go (shape k n) (digits-back k (n / 10) (one_less 10 k n (omega arith) h))
  where
    go : Shape k n → (0 < k → spelled_from 10 0 (digits 10 false k (n / 10)) ≡ Some (n / 10)) → spelled_from 10 0 (digits 10 false (suc k) n) ≡ Some n
    go (single l e) f =
        let d : digit_value (glyph n) ≡ n = digit-back n (omega arith) in
        rw e (spelled-more 10 0 [] (glyph n) 0 refl (rw d l) ∙ ap Some (rw d (omega arith)))
    go (several l e) f = rw e (last-back 10 n (digits 10 false k (n / 10)) (omega arith) (omega arith) (f (tenth k n h l)))

-- no more digits than a power of ten above the number has zeros
digits-length : (k j n : ℕ) → n < 10 ^ j → 0 < j → length (digits 10 false k n) ≤ j
unfolding digits
digits-length zero j n h p = omega arith
digits-length (suc k) zero n h p = absurd (omega arith)
digits-length (suc k) (suc j) n h p = go (shape k n) (digits-length k j (n / 10) (one_less 10 j n (omega arith) h))
  where
    go : Shape k n → (0 < j → length (digits 10 false k (n / 10)) ≤ j) → length (digits 10 false (suc k) n) ≤ suc j
    go (single l e) f = rw e (omega arith)
    go (several l e) f =
        rw (e, length-append (digits 10 false k (n / 10)) (glyph (n % 10) ∷ [])) (omega (arith, f (tenth j n h l)))

-- a digit at least
digits-some : (k n : ℕ) → 0 < length (digits 10 false (suc k) n)
digits-some k n = go (shape k n)
  where
    go : Shape k n → 0 < length (digits 10 false (suc k) n)
    go (single l e) = rw e (omega arith)
    go (several l e) = rw (e, length-append (digits 10 false k (n / 10)) (glyph (n % 10) ∷ [])) (omega arith)

-- and the first byte is none of a sign
glyph-high : (d : ℕ) → 48 ≤ glyph d
glyph-high d = grind arith

first-high : (xs : List ℕ) (b : ℕ) → 48 ≤ b → (0 < length xs → 48 ≤ get_or xs 0 0) → 48 ≤ get_or (xs ++ (b ∷ [])) 0 0
first-high [] b h f = h
first-high (x ∷ xs) b h f = f (omega arith)

digits-high : (k n : ℕ) → 0 < length (digits 10 false k n) → 48 ≤ get_or (digits 10 false k n) 0 0
unfolding digits
digits-high zero n p = absurd (omega arith)
digits-high (suc k) n p = go (shape k n) (digits-high k (n / 10))
  where
    go : Shape k n → (0 < length (digits 10 false k (n / 10)) → 48 ≤ get_or (digits 10 false k (n / 10)) 0 0) → 48 ≤ get_or (digits 10 false (suc k) n) 0 0
    go (single l e) f = rw e (glyph-high n)
    go (several l e) f = rw e (first-high (digits 10 false k (n / 10)) (glyph (n % 10)) (glyph-high (n % 10)) f)

-- ---- decimal numbers

-- 20 digits hold every number of 64 bits
pub decimal64-back : (n : ℕ) → n < 2 ^ 64 → spelled_from 10 0 (decimal n) ≡ Some n
decimal64-back n h = digits-back 20 n (omega arith) (omega arith)

pub decimal-back : (n : ℕ) → n < 10 ^ 10 → decimal_of (decimal n) ≡ Some n
decimal-back n h =
    within 10 10 (digits 10 false 20 n) (digits-some 19 n) (digits-length 20 10 n h (omega arith)) ∙ decimal64-back n (omega arith)

below-back : (limit n : ℕ) → n < limit → limit ≤ 10 ^ 10 → below_of limit (decimal_of (decimal n)) ≡ Some n
below-back limit n h l = ap (below_of limit) (decimal-back n (omega arith)) ∙ rw (lt-ltb n limit h)

pub unsigned32-back : (n : ℕ) → n < 2 ^ 32 → unsigned32_of (decimal n) ≡ Some n
unsigned32-back n h = below-back (2 ^ 32) n h (omega arith)

pub length_back : (n : ℕ) → n < 33 → length_of (decimal n) ≡ Some n
length_back n h = below-back 33 n h (omega arith)

-- ---- signed numbers

signed_back : (half : ℕ) (z : ℤ) → half ≤ 2 ^ 31 → mag z < half → signed_whole half (written z) ≡ Some z
signed_back half (pos n) l h =
    let p : 0 < length (digits 10 false 20 n) = digits-some 19 n in
    no_minus half (decimal n) p (λ e. omega (arith, digits-high 20 n p))
    ∙ ap (unsigned_whole half) (decimal-back n (omega arith))
    ∙ rw (lt-ltb n half h)
signed_back half (negsuc n) l h = ap (negated_whole half) (decimal-back (suc n) (omega arith)) ∙ rw (le-leb (suc n) half h)

pub whole16-back : (z : ℤ) → mag z < 2 ^ 15 → signed_whole (2 ^ 15) (written z) ≡ Some z
whole16-back z h = signed_back (2 ^ 15) z (omega arith) h

pub whole32-back : (z : ℤ) → mag z < 2 ^ 31 → signed_whole (2 ^ 31) (written z) ≡ Some z
whole32-back z h = signed_back (2 ^ 31) z (omega arith) h
