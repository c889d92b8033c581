-- The first place of a byte is the library's `position`.
-- Assumes nothing.
use Rattle.std.proofs.Common.{◌≡◌, ℕ, ◌+◌, Bool, true, false, cond, eqb, List, refl, arith}
use Rattle.std.specs.List.{position_or_len}
use Rattle.std.proofs.lemmas.List.Recursion.{is_position_or_len}
use Rattle.scan.specs.Bytes.{index_of, index_after}

step : (t : Bool) (n : ℕ) → index_after t n ≡ cond t 0 (1 + n)
unfolding index_after
step true n = refl
step false n = omega arith

pub library : (byte : ℕ) (xs : List ℕ) → index_of byte xs ≡ position_or_len (λ b. eqb b byte) xs
unfolding index_of
library byte xs = is_position_or_len (index_of byte) (λ b. eqb b byte) refl (λ x xs. step (eqb x byte) (index_of byte xs)) xs
