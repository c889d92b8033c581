-- `carriage::stride` meets its contract.
-- Assumes nothing.
use Prim.Native.Nat.{ℕ, zero, suc, ◌-◌, ◌<◌, ◌^◌}
use native.Mathlib.Omega.{arith}
use mathlib.Core.Path.{◌≡◌, refl, sym, ap, ◌∙◌}
use lib.IntN.{pos, neg_ℤ, ◌-ℤ◌}
use mir.Facts.{to_z-of_z}
use mir.Syntax.{w64}
use mir.Val.{SFits}
use borrow.Author.Tests.{lt-ltb}
use Rattle.counts.proofs.Integers.{read-unsigned, mag-sub}
use Rattle.carriage.specs.Rail.{stride_of}
use Rattle.carriage.proofs.stride.Goals as goal

less : (n : ℕ) → pos 0 -ℤ pos n ≡ neg_ℤ (pos n)
less zero = refl
less (suc n) = let e : suc n - 1 ≡ n = omega arith in rw (lt-ltb 0 (suc n) (omega arith), e)

pub returns-then-is_forward : goal.returns-then-is_forward
unfolding stride_of
returns-then-is_forward c =
    let l = c.leg_cells-cells in
    let k : l.result < 2 ^ 32 = omega arith in
    rw (sym c.is_forward.ensures ∙ c.if-is_forward.true) (read-unsigned l.result k ∙ ap pos l.ensures)

pub returns-else-is_forward : goal.returns-else-is_forward
unfolding stride_of
returns-else-is_forward c =
    let l = c.leg_cells-cells in
    let k : l.result < 2 ^ 32 = omega arith in
    let fits : SFits w64 (pos 0 -ℤ pos l.result) = record { sfits = mag-sub (pos 0) (pos l.result) (2 ^ 63) (omega arith) } in
    rw (sym c.is_forward.ensures ∙ c.if-is_forward.false, read-unsigned l.result k, to_z-of_z fits, less l.result)
    (ap (λ (n : ℕ). neg_ℤ (pos n)) l.ensures)
