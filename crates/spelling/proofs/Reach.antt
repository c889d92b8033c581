-- Reading digits one at a time, and how far a number of so many digits can reach.
-- Assumes nothing.
use Prim.Native.Nat.{ℕ, suc, ◌+◌, ◌*◌, ◌^◌, ◌≤◌, ◌<◌}
use mathlib.Core.Bool.{Bool, true, false, cond, ◌&&◌}
use mathlib.Core.List.{List, [], ◌∷◌}
use mathlib.Core.Path.{◌≡◌, refl, subst}
use native.Mathlib.Nat.{mul-le-mul_right, suc-mul, pow-zero, pow-suc, pow-le-pow_right}
use native.Mathlib.Omega.{arith}
use borrow.Author.Tests.{ltb-true, leb-true, le-leb, lt-leb, lt-ltb}
use Rattle.std.proofs.lemmas.Bool.{and_parts}
use lib.Dec.{leb, ltb}
use lib.ListN.{length, drop, get_or}
use lib.Seq.{drop-cons}
use Rattle.std.specs.Prelude.{Option, Some, None}
use Rattle.std.specs.Char as char
use Rattle.spelling.proofs.Digits.{library, library_back}
use Rattle.spelling.specs.Spelling.{digit_value, spelled_from, spelled_of, Below}

-- the digit at i is read
pub further : (base v : ℕ) (bs : List ℕ) (i : ℕ) → base ≤ 16 → i < length bs → char.digit_value (get_or bs i 0) < base
    → spelled_from base v (drop i bs) ≡ spelled_from base (v * base + char.digit_value (get_or bs i 0)) (drop (suc i) bs)
unfolding spelled_from
further base v bs i b h t =
    let e = library (get_or bs i 0) base b t in
    rw (drop-cons bs i 0 h, e, lt-ltb (char.digit_value (get_or bs i 0)) base t) refl

-- the byte at i is no digit
pub stops : (base v : ℕ) (bs : List ℕ) (i : ℕ) → base ≤ 16 → i < length bs → (char.digit_value (get_or bs i 0) < base → ⊥)
    → spelled_from base v (drop i bs) ≡ None
unfolding spelled_from
stops base v bs i b h t = go (ltb (digit_value (get_or bs i 0)) base) refl
  where
    go : (s : Bool) → ltb (digit_value (get_or bs i 0)) base ≡ s → spelled_from base v (drop i bs) ≡ None
    go true e = absurd (t (library_back (get_or bs i 0) base b (ltb-true (digit_value (get_or bs i 0)) base e)))
    go false e = rw (drop-cons bs i 0 h, e) refl

pub reach : (base v d i : ℕ) → v < base ^ i → d < base → v * base + d < base ^ suc i
reach base v d i h t = let m : suc v * base ≤ base ^ i * base = mul-le-mul_right base h in rw (pow-suc base i) (omega (arith, suc-mul v base))

below-if : (t : Bool) (limit : ℕ) (r : Option ℕ) → (t ≡ true → Below limit r) → Below limit (cond t r None)
below-if true limit r f = f refl
below-if false limit r f = tt

pub spelled-below : (base v : ℕ) (bs : List ℕ) (i : ℕ) → v < base ^ i
    → Below (base ^ (i + length bs)) (spelled_from base v bs)
unfolding spelled_from
spelled-below base v [] i h = subst (λ (k : ℕ). v < base ^ k) (omega arith) h
spelled-below base v (x ∷ bs) i h =
    below-if (ltb (digit_value x) base) (base ^ (i + suc (length bs))) (spelled_from base (v * base + digit_value x) bs)
    (λ e.
    subst (λ (k : ℕ). Below (base ^ k) (spelled_from base (v * base + digit_value x) bs)) (omega arith)
    (spelled-below base (v * base + digit_value x) bs (suc i) (reach base v (digit_value x) i h (ltb-true (digit_value x) base e))))

below_more : (r : Option ℕ) {k n : ℕ} → k ≤ n → Below k r → Below n r
below_more (Some v) h b = omega arith
below_more None h b = tt

-- no digit spells 0
pub nothing : (base : ℕ) → 0 < base ^ 0
nothing base = rw (pow-zero base) (omega arith)

-- as many digits as there are
pub digits-below : (base most : ℕ) (bs : List ℕ) → Below (base ^ length bs) (spelled_of base most bs)
unfolding spelled_of
digits-below base most bs =
    below-if (leb 1 (length bs) && leb (length bs) most) (base ^ length bs) (spelled_from base 0 bs)
    (λ e.
    subst (λ (k : ℕ). Below (base ^ k) (spelled_from base 0 bs)) (omega arith) (spelled-below base 0 bs 0 (nothing base)))

-- as many as there may be
pub most-below : (base most : ℕ) (bs : List ℕ) → 0 < base → Below (base ^ most) (spelled_of base most bs)
unfolding spelled_of
most-below base most bs b =
    below-if (leb 1 (length bs) && leb (length bs) most) (base ^ most) (spelled_from base 0 bs)
    (λ e.
    below_more (spelled_from base 0 bs)
    (pow-le-pow_right b {j = most} (omega (arith, leb-true (length bs) most (and_parts (leb 1 (length bs)) (leb (length bs) most) e).1)))
    (spelled-below base 0 bs 0 (nothing base)))

-- the count of digits is right
pub within : (base most : ℕ) (bs : List ℕ) → 0 < length bs → length bs ≤ most → spelled_of base most bs ≡ spelled_from base 0 bs
unfolding spelled_of
within base most bs l h = rw (le-leb 1 (length bs) l, le-leb (length bs) most h)

pub no-digits : (base most : ℕ) (bs : List ℕ) → length bs ≡ 0 → spelled_of base most bs ≡ None
unfolding spelled_of
no-digits base most bs h = rw h

pub many-digits : (base most : ℕ) (bs : List ℕ) → most < length bs → spelled_of base most bs ≡ None
unfolding spelled_of
many-digits base most bs h = go (leb 1 (length bs))
  where
    go : (t : Bool) → cond (t && leb (length bs) most) (spelled_from base 0 bs) None ≡ None
    go true = rw (lt-leb (length bs) most h)
    go false = refl
