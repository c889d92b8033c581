-- 01, "The sheet": a settings word. "The top 4 bits are the kind, the low 28 the data."
-- Assumes nothing.
use Rattle.std.specs.Prelude.{ℕ, ◌+◌, ◌*◌, ◌/◌, ◌%◌, ◌^◌, Bool, true, false, cond, ◌&&◌, List, [], ◌∷◌, eqb}

abbrev pub kind_of : ℕ → ℕ
kind_of w = w / 2 ^ 28

abbrev pub data_of : ℕ → ℕ
data_of w = w % 2 ^ 28

-- the word of a kind and its data
abbrev pub packed : ℕ → ℕ → ℕ
packed kind x = kind * 2 ^ 28 + x

-- the same words in the same order
abbrev pub same_words : List ℕ → List ℕ → Bool
same_words [] [] = true
same_words [] (y ∷ ys) = false
same_words (x ∷ xs) [] = false
same_words (x ∷ xs) (y ∷ ys) = eqb x y && same_words xs ys

abbrev pub or_else : List ℕ → List ℕ → List ℕ
or_else [] ys = ys
or_else (x ∷ xs) ys = x ∷ xs

-- the words from the latest start word on, accepted or not; [] where there is none
unfoldable pub latest : List ℕ → List ℕ
latest [] = []
latest (w ∷ ws) = or_else (latest ws) (cond (eqb (kind_of w) 0) (w ∷ ws) [])
