-- Lists spelled out, element by element.
-- Assumes nothing.
use Rattle.std.specs.Prelude.{ℕ, zero, suc, List, [], ◌∷◌, slice_index}

-- n elements from place k on
abbrev pub cells_from : ℕ → ℕ → List ℕ → List ℕ
cells_from k zero l = []
cells_from k (suc n) l = slice_index l k ∷ cells_from (suc k) n l

abbrev pub cells : ℕ → List ℕ → List ℕ
cells n l = cells_from 0 n l

-- n values of f from k on
abbrev pub values_from : ℕ → ℕ → (ℕ → ℕ) → List ℕ
values_from k zero f = []
values_from k (suc n) f = f k ∷ values_from (suc k) n f
