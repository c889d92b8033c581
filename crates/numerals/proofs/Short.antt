-- Bounds on the length of a text, which add up; a number's text by its value.
-- Assumes nothing.
use Prim.Native.Nat.{ℕ, zero, suc, ◌+◌, ◌/◌, ◌%◌, ◌^◌, ◌≤◌, ◌<◌}
use mathlib.Core.Bool.{Bool, true, false, cond, ◌||◌}
use mathlib.Core.List.{List, [], ◌∷◌, ◌++◌}
use mathlib.Core.Path.{◌≡◌, refl}
use native.Mathlib.Nat.{pow-suc}
use native.Mathlib.Omega.{arith}
use borrow.Author.Tests.{leb-true}
use lib.Dec.{leb}
use lib.IntN.{ℤ, pos, negsuc}
use lib.ListN.{length, length-append}
use lib.Signed.{mag}
use Rattle.numerals.specs.Writing.{glyph, digits, decimal, whole}

pub record Short (n : ℕ) (xs : List ℕ) : Type 0 where
  pub short : length xs ≤ n

pub is : {n : ℕ} {xs : List ℕ} → length xs ≤ n → Short n xs
is h = record { short = h }

pub both : {m n : ℕ} {xs ys : List ℕ} → Short m xs → Short n ys → Short (m + n) (xs ++ ys)
both {xs = xs} {ys = ys} h k = is (omega (arith, length-append xs ys, h.short, k.short))

pub all : (xs : List ℕ) → Short (length xs) xs
all xs = is (omega arith)

pub either : {n : ℕ} (t : Bool) {xs ys : List ℕ} → Short n xs → Short n ys → Short n (cond t xs ys)
either true h k = h
either false h k = k

pub within : {m n : ℕ} {xs : List ℕ} → Short m xs → m ≤ n → Short n xs
within h k = is (omega (arith, h.short, k))

-- ---- whatever the number is

pub digits-short : (base : ℕ) (zeros : Bool) (places n : ℕ) → Short places (digits base zeros places n)
unfolding digits
digits-short base zeros zero n = is (omega arith)
digits-short base zeros (suc places) n =
    within (both (either (zeros || leb base n) (digits-short base zeros places (n / base)) (is (omega arith))) (all (glyph (n % base) ∷ []))) (omega arith)

pub decimal-short : (n : ℕ) → Short 20 (decimal n)
decimal-short n = digits-short 10 false 20 n

pub whole-short : (z : ℤ) → Short 21 (whole z)
whole-short (pos n) = within (decimal-short n) (omega arith)
whole-short (negsuc n) = is (omega (arith, (decimal-short (suc n)).short))

-- ---- by its value: a number below 10 ^ k has at most k digits, where k is not 0

-- a last digit, after those of n / 10 where there are more
with-last : (t : Bool) (k n : ℕ) (more : List ℕ) → leb 10 n ≡ t → n < 10 ^ suc k → ((j : ℕ) → n / 10 < 10 ^ suc j → Short (suc j) more)
    → Short (suc k) (cond t more [] ++ (glyph (n % 10) ∷ []))
with-last true zero n more e h shorter = absurd (omega (arith, leb-true 10 n e, h))
with-last true (suc k) n more e h shorter =
    let q : n / 10 < 10 ^ suc k = omega (arith, rw (pow-suc 10 (suc k)) at h) in
    within (both (shorter k q) (all (glyph (n % 10) ∷ []))) (omega arith)
with-last false k n more e h shorter = is (omega arith)

digits-below : (places k n : ℕ) → n < 10 ^ suc k → Short (suc k) (digits 10 false places n)
unfolding digits
digits-below zero k n h = is (omega arith)
digits-below (suc places) k n h = with-last (leb 10 n) k n (digits 10 false places (n / 10)) refl h (λ j q. digits-below places j (n / 10) q)

pub decimal-below : (n : ℕ) → n < 10 ^ 10 → Short 10 (decimal n)
decimal-below n h = digits-below 20 9 n h

pub whole_below : (z : ℤ) → mag z + 1 < 10 ^ 10 → Short 11 (whole z)
whole_below (pos n) h = within (decimal-below n (omega arith)) (omega arith)
whole_below (negsuc n) h = is (omega (arith, (decimal-below (suc n) (omega arith)).short))
