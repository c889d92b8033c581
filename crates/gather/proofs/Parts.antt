-- The part of a chunk up to the next LF, one byte at a time.
-- Assumes nothing.
use Prim.Native.Nat.{ℕ, suc, ◌+◌, ◌-◌, ◌≤◌, ◌<◌}
use mathlib.Core.List.{List, [], ◌∷◌, ◌++◌, append_assoc}
use mathlib.Core.Path.{◌≡◌, sym, ap, ◌∙◌}
use native.Mathlib.Omega.{arith}
use borrow.Author.Tests.{eq-eqb, ne_eqb, lt-ltb}
use lib.ListN.{length, take, drop, get_or, length-drop, drop_of_length-le}
use lib.Seq.{drop-cons, take-suc, take_all}
use Rattle.std.specs.Prelude.{Some}
use Rattle.scan.specs.Bytes.{index_of, index_after}
use Rattle.gather.specs.Lines.{rest_of}

at-lf : (chunk : List ℕ) (i : ℕ) → i < length chunk → get_or chunk i 0 ≡ 10 → index_of 10 (drop i chunk) ≡ 0
unfolding index_of index_after
at-lf chunk i h e = rw (drop-cons chunk i 0 h, eq-eqb (get_or chunk i 0) 10 e)

pub before-lf : (chunk : List ℕ) (i : ℕ) → i < length chunk → (get_or chunk i 0 ≡ 10 → ⊥)
    → index_of 10 (drop i chunk) ≡ suc (index_of 10 (drop (suc i) chunk))
unfolding index_of index_after
before-lf chunk i h e = rw (drop-cons chunk i 0 h, ne_eqb (get_or chunk i 0) 10 e)

no_more : (chunk : List ℕ) (i : ℕ) → length chunk ≤ i → index_of 10 (drop i chunk) ≡ 0
unfolding index_of
no_more chunk i h = rw (drop_of_length-le chunk h)

-- the LF is here
pub here : (chunk : List ℕ) (i : ℕ) → index_of 10 chunk ≡ i + index_of 10 (drop i chunk) → i < length chunk → get_or chunk i 0 ≡ 10 → i ≡ index_of 10 chunk
here chunk i n h e = omega (arith, at-lf chunk i h e)

pub rest-here : (chunk : List ℕ) (i : ℕ) → i ≡ index_of 10 chunk → i < length chunk → Some (take (length chunk - (i + 1)) (drop (i + 1) chunk)) ≡ rest_of chunk
rest-here chunk i n h =
    rw (sym n, lt-ltb i (length chunk) h) (ap (λ (xs : List ℕ). Some xs) (take_all (length chunk - (i + 1)) (drop (i + 1) chunk) (omega (arith, length-drop (i + 1) chunk))))

-- there is none
pub nowhere : (chunk : List ℕ) (i : ℕ) → index_of 10 chunk ≡ i + index_of 10 (drop i chunk) → i ≡ length chunk → i ≡ index_of 10 chunk
nowhere chunk i n h = omega (arith, no_more chunk i (omega arith))

pub one_more : (bs chunk : List ℕ) (i : ℕ) → i < length chunk → (bs ++ take i chunk) ++ (get_or chunk i 0 ∷ []) ≡ bs ++ take (suc i) chunk
one_more bs chunk i h =
    append_assoc bs (take i chunk) (get_or chunk i 0 ∷ []) ∙ ap (λ (xs : List ℕ). bs ++ xs) (sym (take-suc chunk i 0 h))
