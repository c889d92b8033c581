-- A list of so many elements, element by element.
-- Assumes nothing.
use Prim.Native.Nat.{ℕ, zero, suc}
use mathlib.Core.Path.{◌≡◌, refl, ap}
use mathlib.Core.List.{List, [], ◌∷◌}
use native.Mathlib.Omega.{arith}
use lib.ListN.{length, drop, get_or}

unfoldable pub spell : ℕ → List ℕ → List ℕ
spell zero xs = []
spell (suc n) xs = get_or xs 0 0 ∷ spell n (drop 1 xs)

pub spelled : (n : ℕ) (xs : List ℕ) → length xs ≡ n → xs ≡ spell n xs
unfolding spell
spelled zero [] e = refl
spelled zero (x ∷ xs) e = absurd (omega arith)
spelled (suc n) [] e = absurd (omega arith)
spelled (suc n) (x ∷ xs) e = ap (λ (t : List ℕ). x ∷ t) (spelled n xs (omega arith))
