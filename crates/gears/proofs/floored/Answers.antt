-- `gears::floored` meets its contract: either way `mag x` is divided, and −1 less a number turns x and the quotient.
-- Assumes nothing.
use Prim.Native.Nat.{ℕ, ◌/◌, ◌%◌, ◌^◌, ◌<◌}
use mathlib.Core.Path.{◌≡◌, sym, ap, ◌∙◌}
use native.Mathlib.Omega.{arith}
use lib.IntN.{ℤ, pos, negsuc, ◌-ℤ◌}
use lib.Signed.{mag}
use mir.Facts.{to_z-of_z}
use mir.Syntax.{w32, w64}
use mir.Val.{SFits, to_z, of_z}
use borrow.Author.Rules.{rules}
use Rattle.counts.specs.Divide.{floor_div}
use Rattle.counts.specs.Wrap.{wrapped}
use Rattle.counts.proofs.Integers.{mag-sub, mirror-down, mirror-fits}
use Rattle.counts.proofs.Modulo.{cast-wrapped, wrapped-low, wrapped-mirror}
use Rattle.gears.proofs.Signs.{not_negative, negative}
use Rattle.gears.proofs.floored.Goals as goal

small-fits : (a b : ℤ) → SFits w32 a → mag b < 2 ^ 56 → SFits w64 (a -ℤ b)
small-fits a b h k = record { sfits = mag-sub a b (2 ^ 63) (omega (arith, h.sfits)) }

-- the wrapped quotient of m
took : (m d q : ℕ) {r : ℤ} → q < 2 ^ 32 → q ≡ m / d % 2 ^ 32 → r ≡ to_z w32 q → r ≡ wrapped (pos (m / d))
took m d q h e f = f ∙ cast-wrapped q h ∙ ap (λ (n : ℕ). wrapped (pos n)) e ∙ wrapped-low (m / d)

pub returns-then-x-ge0 : goal.returns-then-x-ge0
unfolding floor_div
returns-then-x-ge0 c =
    let x = c.args.x in
    let d = c.args.d.value in
    to_z-of_z {w = w32} {z = c.cast_signed.result} (search rules)
    ∙ took (mag x) d c.quotient.result (search rules) (rw (to_z-of_z c.ranges.x ∙ (not_negative c.args.x (rw (to_z-of_z c.ranges.x) at c.if-x-ge0.true))) at c.quotient.ensures) c.cast_signed.ensures
    ∙ ap (λ (z : ℤ). wrapped (floor_div z d)) (sym (not_negative c.args.x (rw (to_z-of_z c.ranges.x) at c.if-x-ge0.true)))

pub returns-else-x-ge0 : goal.returns-else-x-ge0
unfolding floor_div
returns-else-x-ge0 c =
    let x = c.args.x in
    let d = c.args.d.value in
    let r : SFits w32 c.cast_signed-else-x-ge0.result = search rules in
    let f : SFits w64 (negsuc 0 -ℤ x) = small-fits (negsuc 0) x (search rules) (omega arith) in
    let n : SFits w64 (negsuc 0 -ℤ to_z w64 (of_z w64 x)) = rw (to_z-of_z c.ranges.x) f in
    to_z-of_z {w = w32} (rw (to_z-of_z r) (mirror-fits r))
    ∙ ap (λ (z : ℤ). negsuc 0 -ℤ z)
    (to_z-of_z {w = w32} {z = c.cast_signed-else-x-ge0.result} (search rules)
    ∙ took (mag x) d c.quotient-else-x-ge0.result (search rules) (rw (to_z-of_z n ∙ ap (λ (z : ℤ). negsuc 0 -ℤ z) (to_z-of_z c.ranges.x ∙ (negative c.args.x (rw (to_z-of_z c.ranges.x) at c.if-x-ge0.false))) ∙ mirror-down (mag c.args.x)) at c.quotient-else-x-ge0.ensures) c.cast_signed-else-x-ge0.ensures)
    ∙ wrapped-mirror (mag x / d)
    ∙ ap (λ (z : ℤ). wrapped (floor_div z d)) (sym (negative c.args.x (rw (to_z-of_z c.ranges.x) at c.if-x-ge0.false)))
