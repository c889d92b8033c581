-- A signed number that starts with no minus.
-- Assumes nothing.
use Prim.Native.Nat.{ℕ, ◌<◌}
use mathlib.Core.List.{List, [], ◌∷◌}
use mathlib.Core.Path.{◌≡◌}
use native.Mathlib.Omega.{arith}
use borrow.Author.Tests.{ne_eqb}
use lib.ListN.{length, get_or}
use Rattle.numerals.specs.Signs.{unsigned_whole, signed_whole}
use Rattle.spelling.specs.Spelling.{decimal_of}

pub no_minus : (half : ℕ) (bs : List ℕ) → 0 < length bs → (get_or bs 0 0 ≡ 45 → ⊥) → signed_whole half bs ≡ unsigned_whole half (decimal_of bs)
no_minus half [] h e = absurd (omega arith)
no_minus half (b ∷ bs) h e = rw (ne_eqb b 45 e)
