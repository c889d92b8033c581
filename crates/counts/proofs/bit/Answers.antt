-- `counts::bit` meets its contract: a shift divides by a power of two, and a 16-bit word has nothing from place 16 on.
-- Assumes nothing.
use mathlib.Core.Path.{◌≡◌}
use Prim.Native.Nat.{ℕ, ◌/◌, ◌^◌, ◌<◌, ◌≤◌}
use native.Mathlib.Nat.{div-eq_of_lt, lt_of_lt_of_le, pow-le-pow_right}
use native.Mathlib.Omega.{arith}
use borrow.Author.Tests.{le-ltb}
use Rattle.counts.proofs.bit.Goals as goal

past : (word place : ℕ) → word < 2 ^ 16 → 16 ≤ place → word / 2 ^ place ≡ 0
past word place h k = div-eq_of_lt (lt_of_lt_of_le h (pow-le-pow_right {n = 2} (omega arith) k))

pub returns-else-place-lt16 : goal.returns-else-place-lt16
returns-else-place-lt16 c = let h = c.if-place-lt16.false in rw (le-ltb c.args.place 16 h, past c.args.word c.args.place c.ranges.word.fits h)
