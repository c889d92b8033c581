-- Laws of words in a row: one more of them, their length, the running sum, and a buffer filled from its front.
-- Assumes nothing.
use Prim.Native.Nat.{ℕ, zero, suc, ◌+◌, ◌<◌}
use mathlib.Core.Path.{◌≡◌, refl, ap, ◌∙◌}
use mathlib.Core.Bool.{Bool, true, false}
use mathlib.Core.List.{List, [], ◌∷◌, ◌++◌}
use native.Mathlib.Omega.{arith}
use native.Mathlib.Nat.{not-suc-le-zero, le_of_suc-le-suc}
use lib.ListN.{length, take, drop, set, get_or, length-append}
use lib.Dec.{eqb}
use Rattle.settings.specs.declared.Settings.{Settings}
use Rattle.layouts.specs.Layout.{size}
use Rattle.words.specs.Word.{packed}
use Rattle.words.specs.Encode.{values_of, total, checksum_of, words_from, sealed, sent, words_of}

-- a store past what is filled fills one word more
pub stored : (filled buffer : List ℕ) (n x : ℕ) → length filled ≡ n → n < length buffer
    → set (filled ++ drop n buffer) n x ≡ (filled ++ x ∷ []) ++ drop (suc n) buffer
stored [] [] n x e h = absurd (not-suc-le-zero h)
stored [] (b ∷ bs) zero x e h = refl
stored [] (b ∷ bs) (suc n) x e h = absurd (omega arith)
stored (f ∷ fs) [] n x e h = absurd (not-suc-le-zero h)
stored (f ∷ fs) (b ∷ bs) zero x e h = absurd (omega arith)
stored (f ∷ fs) (b ∷ bs) (suc n) x e h = ap (λ (t : List ℕ). f ∷ t) (stored fs bs n x (omega arith) (le_of_suc-le-suc h))

pub length-words : (kind : ℕ) (d : List ℕ) → length (words_from kind d) ≡ length d
unfolding words_from
length-words kind [] = refl
length-words kind (x ∷ d) = ap suc (length-words (kind + 1) d)

-- one value more is one word more
pub words_more : (kind : ℕ) (d : List ℕ) (i : ℕ) → i < length d → words_from kind (take (suc i) d) ≡ words_from kind (take i d) ++ packed (kind + i) (get_or d i 0) ∷ []
unfolding words_from
words_more kind [] i h = absurd (not-suc-le-zero h)
words_more kind (x ∷ d) zero h = let e : kind ≡ kind + 0 = omega arith in ap (λ (k : ℕ). packed k x ∷ []) e
words_more kind (x ∷ d) (suc i) h =
    let e : kind + 1 + i ≡ kind + suc i = omega arith in
    ap (λ (t : List ℕ). packed kind x ∷ t) (words_more (kind + 1) d i (le_of_suc-le-suc h) ∙ ap (λ (j : ℕ). words_from (kind + 1) (take i d) ++ packed j (get_or d i 0) ∷ []) e)

pub total-more : (d : List ℕ) (i : ℕ) → i < length d → total (take (suc i) d) ≡ total (take i d) + get_or d i 0
unfolding total
total-more [] i h = absurd (not-suc-le-zero h)
total-more (x ∷ d) zero h = omega arith
total-more (x ∷ d) (suc i) h = let e = total-more d i (le_of_suc-le-suc h) in omega arith

length-sealed : (d : List ℕ) → length (sealed d) ≡ length d + 1
length-sealed d = length-append (words_from 0 d) (packed 15 (checksum_of d) ∷ []) ∙ ap (λ (n : ℕ). n + 1) (length-words 0 d)

-- what a layout sends, and its words
pub sent-size : (layout : ℕ) (s : Settings) → length (sent layout s) ≡ size layout
unfolding values_of
sent-size layout s = go (eqb layout 1) refl
  where
    go : (b : Bool) → eqb layout 1 ≡ b → length (sent layout s) ≡ size layout
    go true e = rw e
    go false e = rw e

pub words_size : (layout : ℕ) (s : Settings) → length (words_of layout s) ≡ size layout + 1
unfolding words_of
words_size layout s = length-sealed (sent layout s) ∙ ap (λ (n : ℕ). n + 1) (sent-size layout s)
