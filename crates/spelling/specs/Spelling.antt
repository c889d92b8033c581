-- What digits spell, in ASCII.
-- Assumes nothing.
use Rattle.std.specs.Prelude.{ℕ, ◌+◌, ◌-◌, ◌*◌, ◌<◌, cond, List, [], ◌∷◌, ltb, length, Option, Some, None}
use Rattle.counts.specs.Between.{between}

-- the value of a digit: `0` to `9`, `A` to `F` or `a` to `f`; 16 for any other byte
unfoldable pub digit_value : ℕ → ℕ
digit_value b = cond (between 48 57 b) (b - 48) (cond (between 65 70 b) (b - 55) (cond (between 97 102 b) (b - 87) 16))

-- what digits of a base spell after digits that spell v
unfoldable pub spelled_from : ℕ → ℕ → List ℕ → Option ℕ
spelled_from base v [] = Some v
spelled_from base v (b ∷ bs) = cond (ltb (digit_value b) base) (spelled_from base (v * base + digit_value b) bs) None

-- what 1 to `most` digits spell
unfoldable pub spelled_of : ℕ → ℕ → List ℕ → Option ℕ
spelled_of base most bs = cond (between 1 most (length bs)) (spelled_from base 0 bs) None

-- 1 to 10 decimal digits
abbrev pub decimal_of : List ℕ → Option ℕ
decimal_of bs = spelled_of 10 10 bs

-- a number that is read lies below a limit
abbrev pub Below : ℕ → Option ℕ → Type 0
Below limit (Some n) = n < limit
Below limit None = Unit {0}
