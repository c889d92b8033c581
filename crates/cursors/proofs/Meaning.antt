-- What a table means by a word: what stands at the word's number. The name that has the number is the word, and no earlier one is.
-- Assumes nothing.
use Rattle.std.proofs.Common.{◌≡◌, ℕ, zero, suc, ◌<◌, ◌≤◌, Bool, true, false, List, [], ◌∷◌, length, get_or, refl, sym, arith}
use Rattle.std.specs.Str.{bytes_eq}
use Rattle.std.proofs.lemmas.Slice.Eq.{bytes_eq-Decides}
use Rattle.std.proofs.lemmas.Bool.Decides.{not_from_Decides}
use Rattle.cursors.specs.Names.{meaning_of, names, meanings, which_of}

pub by_number : {A : Type 0} (word : List ℕ) (rows : List (List ℕ × A)) (none : A)
    → meaning_of word rows none ≡ get_or (meanings rows) (which_of word (names rows)) none
unfolding which_of
by_number word [] none = refl
by_number {A} word (row ∷ rows) none = go (bytes_eq word row.0) refl (by_number word rows none)
  where
    go : (t : Bool) → bytes_eq word row.0 ≡ t → meaning_of word rows none ≡ get_or (meanings rows) (which_of word (names rows)) none
        → meaning_of word (row ∷ rows) none ≡ get_or (meanings (row ∷ rows)) (which_of word (names (row ∷ rows))) none
    go true e rest = rw e
    go false e rest = rw e rest

pub at_most : (word : List ℕ) (ws : List (List ℕ)) → which_of word ws ≤ length ws
unfolding which_of
at_most word [] = omega arith
at_most word (w ∷ ws) = go (bytes_eq word w) refl (at_most word ws)
  where
    go : (t : Bool) → bytes_eq word w ≡ t → which_of word ws ≤ length ws → which_of word (w ∷ ws) ≤ length (w ∷ ws)
    go true e h = rw e (omega arith)
    go false e h = rw e (omega (arith, h))

abbrev Named : List ℕ → List (List ℕ) → Type 0
Named word ws = which_of word ws < length ws → get_or ws (which_of word ws) [] ≡ word

pub the_word : (word : List ℕ) (ws : List (List ℕ)) → Named word ws
unfolding which_of
the_word word [] h = absurd (omega (arith, h))
the_word word (w ∷ ws) h = go (bytes_eq word w) refl (the_word word ws) h
  where
    go : (t : Bool) → bytes_eq word w ≡ t → Named word ws → Named word (w ∷ ws)
    go true e rest h = rw e (sym ((bytes_eq-Decides word w).0 e))
    go false e rest h = let k = rw e at h in rw e (rest (omega (arith, k)))

abbrev NoneEarlier : List ℕ → List (List ℕ) → Type 0
NoneEarlier word ws = (n : ℕ) → n < which_of word ws → get_or ws n [] ≡ word → ⊥

pub no-earlier : (word : List ℕ) (ws : List (List ℕ)) → NoneEarlier word ws
unfolding which_of
no-earlier word [] n h e = omega (arith, h)
no-earlier word (w ∷ ws) n h e = go (bytes_eq word w) refl (no-earlier word ws) n h e
  where
    go : (t : Bool) → bytes_eq word w ≡ t → NoneEarlier word ws → NoneEarlier word (w ∷ ws)
    go true s rest n h e = let k = rw s at h in omega (arith, k)
    go false s rest zero h e = not_from_Decides _ (bytes_eq-Decides word w) s (sym e)
    go false s rest (suc n) h e = let k = rw s at h in rest n (omega (arith, k)) e

-- past the list none is
pub none-listed : (word : List ℕ) (ws : List (List ℕ)) (n : ℕ) → which_of word ws ≡ length ws → n < length ws → get_or ws n [] ≡ word → ⊥
none-listed word ws n p h = no-earlier word ws n (omega (arith, p, h))
