-- Bit 31 joins an alarm word by `|`: below 2 ^ 31 that adds 2 ^ 31, and from there on it changes nothing.
-- Assumes nothing.
use Prim.Native.Nat.{ℕ, ◌+◌, ◌-◌, ◌*◌, ◌^◌, ◌<◌}
use mathlib.Core.Path.{◌≡◌, refl, ◌∙◌}
use mathlib.Core.Bool.{Bool, true, false, cond}
use native.Mathlib.Omega.{arith}
use borrow.Author.Tests.{ltb-true, ltb-false}
use lib.Bits.{bit_or}
use lib.Dec.{ltb}
use Rattle.std.proofs.lemmas.Nat.{or_comm, or_shifted, or_block}
use Rattle.std.specs.Int.Bits.{or_zero_r}
use Rattle.commands.specs.Commands.{with_bit31}

set : (r : ℕ) → r < 2 ^ 31 → bit_or (1 * 2 ^ 31 + r) (1 * 2 ^ 31 + 0) ≡ 1 * 2 ^ 31 + r
set r h = or_block 31 1 1 r 0 h (omega arith) ∙ rw (or_zero_r r)

pub joined : (alarm : ℕ) → alarm < 2 ^ 32 → bit_or alarm (2 ^ 31) ≡ with_bit31 alarm
unfolding with_bit31
joined alarm h = go (ltb alarm (2 ^ 31)) refl
  where
    go : (b : Bool) → ltb alarm (2 ^ 31) ≡ b → bit_or alarm (2 ^ 31) ≡ cond b (alarm + 2 ^ 31) alarm
    go true e = or_comm alarm (2 ^ 31) ∙ or_shifted 1 31 alarm (ltb-true alarm (2 ^ 31) e) ∙ omega arith
    go false e =
        let r : 1 * 2 ^ 31 + (alarm - 2 ^ 31) ≡ alarm = omega (arith, ltb-false alarm (2 ^ 31) e) in
        rw r at (set (alarm - 2 ^ 31) (omega (arith, ltb-false alarm (2 ^ 31) e)))
