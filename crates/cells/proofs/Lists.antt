-- A list of known length, spelled out: then stores and reads at constant places compute.
-- Assumes nothing.
use Rattle.std.proofs.Common.{◌≡◌, ℕ, zero, suc, List, [], ◌∷◌, length, get_or, sym, refl, ap, ◌∙◌, arith}
use Rattle.cells.specs.Lists.{cells_from, cells}

later : (x k n : ℕ) (l : List ℕ) → cells_from (suc k) n (x ∷ l) ≡ cells_from k n l
later x k zero l = refl
later x k (suc n) l = ap (λ (t : List ℕ). get_or l k 0 ∷ t) (later x (suc k) n l)

pub spelled : (n : ℕ) (l : List ℕ) → length l ≡ n → l ≡ cells n l
spelled zero [] h = refl
spelled zero (x ∷ l) h = absurd (omega arith)
spelled (suc n) [] h = absurd (omega arith)
spelled (suc n) (x ∷ l) h = ap (λ (t : List ℕ). x ∷ t) (spelled n l (omega arith) ∙ sym (later x 0 n l))
