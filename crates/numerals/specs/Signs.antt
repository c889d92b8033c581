-- Signed numbers in ASCII: "an optional `-` and 1 to 10 decimal digits, within 16 or 32 bits signed".
-- Assumes nothing.
use Rattle.std.specs.Prelude.{ℕ, cond, List, [], ◌∷◌, eqb, leb, ltb, ℤ, pos, neg_ℤ, Option, Some, None, option_map}
use Rattle.spelling.specs.Spelling.{decimal_of}

-- a number with no sign, if it lies below `half`
abbrev pub unsigned_whole : ℕ → Option ℕ → Option ℤ
unsigned_whole half (Some n) = cond (ltb n half) (Some (pos n)) None
unsigned_whole half None = None

-- a number after a `-`, if it does not exceed `half`
abbrev pub negated_whole : ℕ → Option ℕ → Option ℤ
negated_whole half (Some n) = cond (leb n half) (Some (neg_ℤ (pos n))) None
negated_whole half None = None

-- from -half to half - 1
abbrev pub signed_whole : ℕ → List ℕ → Option ℤ
signed_whole half [] = None
signed_whole half (b ∷ bs) = cond (eqb b 45) (negated_whole half (decimal_of bs)) (unsigned_whole half (decimal_of (b ∷ bs)))

-- the same, under no limit but that of the digits
abbrev pub signed_of : List ℕ → Option ℤ
signed_of [] = None
signed_of (b ∷ bs) = cond (eqb b 45) (option_map (λ n. neg_ℤ (pos n)) (decimal_of bs)) (option_map pos (decimal_of (b ∷ bs)))
