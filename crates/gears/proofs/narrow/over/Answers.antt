-- `gears::narrow::over` meets its contract: p is the estimate times d, and what is left.
-- Assumes nothing.
use Prim.Native.Nat.{ℕ, ◌+◌, ◌-◌, ◌*◌, ◌/◌, ◌≤◌, ◌<◌}
use mathlib.Core.Path.{◌≡◌, ap, ◌∙◌}
use native.Mathlib.Nat.{mul-add-div_right}
use native.Mathlib.Omega.{arith}
use Rattle.gears.proofs.narrow.over.Goals as goal

parted : (p d q : ℕ) → 0 < d → q * d ≤ p → p / d ≡ q + (p - q * d) / d
parted p d q h k = ap (λ (n : ℕ). n / d) (omega arith) ∙ mul-add-div_right {m = d} h q (p - q * d)

pub returns-else-left-d : goal.returns-else-left-d
returns-else-left-d c = let s = c.args in omega (arith, parted s.p s.divisor.value c.estimate-q.result (omega arith) c.estimate-q.ensures)
