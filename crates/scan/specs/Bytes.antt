-- The first place of a byte in a text.
-- Assumes nothing.
use Rattle.std.specs.Prelude.{◌≡◌, ℕ, suc, ◌+◌, ◌<◌, ◌≤◌, Bool, true, false, cond, List, [], ◌∷◌, eqb, ltb, length, drop, Option, Some, None, option_map}

-- the place of what stands here, or one after it
unfoldable pub index_after : Bool → ℕ → ℕ
index_after true later = 0
index_after false later = suc later

-- the first place that holds the byte, or the length where none does
unfoldable pub index_of : ℕ → List ℕ → ℕ
index_of byte [] = 0
index_of byte (b ∷ bs) = index_after (eqb b byte) (index_of byte bs)

-- the first place that holds the byte
abbrev pub first_of : ℕ → List ℕ → Option ℕ
first_of byte bs = cond (ltb (index_of byte bs) (length bs)) (Some (index_of byte bs)) None

-- the first place from `from` on that holds the byte
unfoldable pub place_of : ℕ → ℕ → List ℕ → Option ℕ
place_of byte from text = option_map (λ place. from + place) (first_of byte (drop from text))

-- the same by cases: a place that is found lies in the text; where none is, the search comes to the text's end
abbrev pub PlaceOf : ℕ → ℕ → List ℕ → Option ℕ → Type 0
PlaceOf byte from text (Some place) = (place ≡ from + index_of byte (drop from text)) × (place < length text)
PlaceOf byte from text None = length (drop from text) ≤ index_of byte (drop from text)
