-- A cell as a number from 0 on, which `omega` reads: y stands for the cell y − o. And the movement that the axis sees, wherever its count wraps.
-- Assumes nothing.
use Prim.Native.Nat.{ℕ, zero, suc, ◌+◌, ◌-◌, ◌%◌, ◌^◌, ◌≤◌, ◌<◌}
use native.Mathlib.Omega.{arith}
use mathlib.Core.Path.{◌≡◌, sym, ap, ◌∙◌}
use mathlib.Core.Bool.{Bool, true, false, cond}
use lib.IntN.{ℤ, pos, negsuc, neg_ℤ, ◌+ℤ◌, ◌-ℤ◌, +ℤ_assoc, +ℤ_comm, +ℤ-neg_ℤ_cancel, -ℤ-+ℤ_cancel}
use borrow.Author.Tests.{lt-ltb, le-ltb}
use Rattle.counts.specs.Wrap.{modulo, signed, wrapped}
use Rattle.counts.specs.Movement.{movement_of}
use Rattle.counts.specs.declared.Movement.TheVariants.{Backward, Forward}
use Rattle.counts.proofs.Modulo.{wrapped_sum}

unfoldable pub cell : ℕ → ℕ → ℤ
cell o y = pos y -ℤ pos o

-- n cells to one side
abbrev pub along : Bool → ℕ → ℤ
along forward n = cond forward (pos n) (neg_ℤ (pos n))

module _ (o y : ℕ) where
  pub forward-cell : (n : ℕ) → cell o y +ℤ along true n ≡ cell o (y + n)
  unfolding cell
  forward-cell n =
      let k = neg_ℤ (pos o) in
      +ℤ_assoc (pos y) k (pos n) ∙ ap (λ (z : ℤ). pos y +ℤ z) (+ℤ_comm k (pos n)) ∙ sym (+ℤ_assoc (pos y) (pos n) k)

  pub pos-cell : o ≤ y → cell o y ≡ pos (y - o)
  unfolding cell
  pos-cell h = let e : y ≡ y - o + o = omega arith in ap (λ n. pos n -ℤ pos o) e ∙ +ℤ-neg_ℤ_cancel (pos (y - o)) (pos o)

pub backward-cell : (o y n : ℕ) → n ≤ y → cell o y +ℤ along false n ≡ cell o (y - n)
backward-cell o y n h =
    let e : y - n + n ≡ y = omega arith in
    ap (λ z. z -ℤ pos n) (sym (forward-cell o (y - n) n ∙ ap (cell o) e)) ∙ +ℤ-neg_ℤ_cancel (cell o (y - n)) (pos n)

pub neg-cell : (o y : ℕ) → y < o → cell o y ≡ negsuc (o - suc y)
unfolding cell
neg-cell zero y h = absurd (omega arith)
neg-cell (suc o) y h = rw (lt-ltb y (suc o) h)

wrapped-difference : (x v : ℤ) → wrapped (wrapped (x +ℤ v) -ℤ wrapped x) ≡ wrapped v
wrapped-difference x v =
    let n = neg_ℤ (wrapped x) in
    rw (
      +ℤ_comm (wrapped (x +ℤ v)) n,
      wrapped_sum n (x +ℤ v),
      +ℤ_comm n (x +ℤ v),
      +ℤ_assoc x v n,
      +ℤ_comm x (v +ℤ n),
      ← wrapped_sum (v +ℤ n) x,
      -ℤ-+ℤ_cancel v (wrapped x),
    )

small-forward : (n : ℕ) → 1 ≤ n → n < 2 ^ 31 → movement_of (wrapped (pos n)) ≡ Forward
unfolding wrapped modulo signed
small-forward zero h k = absurd (omega arith)
small-forward (suc n) h k = let e : suc n % 2 ^ 32 ≡ suc n = omega arith in rw (e, lt-ltb (suc n) (2 ^ 31) k)

small-backward : (n : ℕ) → 1 ≤ n → n < 2 ^ 31 → movement_of (wrapped (neg_ℤ (pos n))) ≡ Backward
unfolding wrapped modulo signed
small-backward zero h k = absurd (omega arith)
small-backward (suc n) h k =
    let e : n % 2 ^ 32 ≡ n = omega arith in
    let d = 2 ^ 32 - suc n in
    rw (e, le-ltb d (2 ^ 31) (omega arith), lt-ltb d (2 ^ 32) (omega arith))

-- a difference of positions has the leg's sign
pub movement : (forward : Bool) (n : ℕ) (x : ℤ) → 1 ≤ n → n < 2 ^ 31
    → movement_of (wrapped (wrapped (x +ℤ along forward n) -ℤ wrapped x)) ≡ cond forward Forward Backward
movement true n x h k = ap movement_of (wrapped-difference x (pos n)) ∙ small-forward n h k
movement false n x h k = ap movement_of (wrapped-difference x (neg_ℤ (pos n))) ∙ small-backward n h k
