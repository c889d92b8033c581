-- Whole numbers in ASCII: how they are written.
-- Assumes nothing.
use Rattle.std.specs.Prelude.{ℕ, zero, suc, ◌+◌, ◌/◌, ◌%◌, Bool, true, false, cond, ◌||◌, List, [], ◌∷◌, ◌++◌, ltb, leb, ℤ, pos, negsuc}

-- the byte of a digit below 16, in upper case
abbrev pub glyph : ℕ → ℕ
glyph d = cond (ltb d 10) (48 + d) (55 + d)

-- a number's last `places` digits in a base; zeros in front of its own digits are written, or they are left out
unfoldable pub digits : ℕ → Bool → ℕ → ℕ → List ℕ
digits base zeros zero n = []
digits base zeros (suc places) n = cond (zeros || leb base n) (digits base zeros places (n / base)) [] ++ (glyph (n % base) ∷ [])

-- the last `places` hexadecimal digits of a number
abbrev pub hexadecimal : ℕ → ℕ → List ℕ
hexadecimal places n = digits 16 true places n

-- 20 digits hold every number of 64 bits
abbrev pub decimal : ℕ → List ℕ
decimal n = digits 10 false 20 n

abbrev pub whole : ℤ → List ℕ
whole (pos n) = decimal n
whole (negsuc n) = 45 ∷ decimal (suc n)
