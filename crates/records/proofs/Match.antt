-- A number that matched none of the arms 0 to n − 1 is at least n.
-- Assumes nothing.
use Prim.Native.Nat.{ℕ, zero, suc, ◌≤◌}
use mathlib.Core.Path.{◌≡◌}
use native.Mathlib.Omega.{arith}

unfoldable pub Avoids : ℕ → ℕ → Type 0
Avoids zero k = Unit {0}
Avoids (suc n) k = Avoids n k × (k ≡ n → ⊥)

pub avoided : (n k : ℕ) → Avoids n k → n ≤ k
unfolding Avoids
avoided zero k a = omega arith
avoided (suc n) k a = let h = avoided n k a.0 in omega (arith, a.1)
