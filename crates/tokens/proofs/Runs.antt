-- Bytes of one kind in front are the library's `prefix_len`.
-- Assumes nothing.
use Rattle.std.proofs.Common.{◌≡◌, ℕ, Bool, List, [], ◌∷◌, refl, arith}
use Rattle.std.specs.List.{prefix_len}
use Rattle.tokens.specs.Words.{blank_is, run_of}

pub library : (blank : Bool) (xs : List ℕ) → prefix_len (blank_is blank) xs ≡ run_of blank xs
unfolding run_of
library blank [] = refl
library blank (x ∷ xs) = rw (library blank xs) (grind arith)
