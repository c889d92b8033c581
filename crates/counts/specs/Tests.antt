-- What tables of examples are made of: −n, a test of two whole numbers, and the test that every entry of a table passes. (Those of the kit do
-- not unfold outside of it, so they do not compute.)
-- Assumes nothing.
use Rattle.std.specs.Prelude.{ℕ, Bool, true, false, ◌&&◌, List, [], ◌∷◌, eqb, ℤ, pos, negsuc, neg_ℤ}

abbrev pub minus : ℕ → ℤ
minus n = neg_ℤ (pos n)

abbrev pub same : ℤ → ℤ → Bool
same (pos a) (pos b) = eqb a b
same (pos a) (negsuc b) = false
same (negsuc a) (pos b) = false
same (negsuc a) (negsuc b) = eqb a b

abbrev pub all : List Bool → Bool
all [] = true
all (b ∷ bs) = b && all bs
