-- `kinds::option_data_ok` meets its contract: a homing torque of at most 3000 leaves bits 20 to 27 zero.
-- Assumes nothing.
use Prim.Native.Nat.{ℕ, ◌/◌, ◌%◌, ◌^◌}
use mathlib.Core.Path.{◌≡◌, refl, sym}
use mathlib.Core.Bool.{Bool, true, false, ◌&&◌, and-false}
use native.Mathlib.Omega.{arith}
use borrow.Author.Tests.{leb-true, leb-false, le-leb, lt-leb, ltb-true, ltb-false}
use lib.Dec.{ltb}
use Rattle.ranges.specs.Range.{torque_ok, option_ok}
use Rattle.kinds.specs.Fields.{option_with_homing_ok}
use Rattle.kinds.proofs.option_data_ok.Goals as goal

-- the torque is in range and the bits above it are zero exactly where all that stands above the option is in range
all_above : (o : Bool) (x : ℕ) → o && torque_ok (x / 2 ^ 8) ≡ o && torque_ok (x / 2 ^ 8 % 2 ^ 12) && ltb x (2 ^ 20)
all_above o x = go o (torque_ok (x / 2 ^ 8)) refl (ltb x (2 ^ 20)) refl
  where
    go : (o t : Bool) → torque_ok (x / 2 ^ 8) ≡ t → (l : Bool) → ltb x (2 ^ 20) ≡ l → o && t ≡ o && torque_ok (x / 2 ^ 8 % 2 ^ 12) && l
    go false t e l k = refl
    go true true e true k = let h = leb-true (x / 2 ^ 8) 3000 e in rw (le-leb (x / 2 ^ 8 % 2 ^ 12) 3000 (omega arith))
    go true true e false k = let h = leb-true (x / 2 ^ 8) 3000 e in let g = ltb-false x (2 ^ 20) k in absurd (omega arith)
    go true false e true k =
        let h = leb-false (x / 2 ^ 8) 3000 e in let g = ltb-true x (2 ^ 20) k in rw (lt-leb (x / 2 ^ 8 % 2 ^ 12) 3000 (omega arith))
    go true false e false k = sym (and-false (torque_ok (x / 2 ^ 8 % 2 ^ 12)))

pub returns-then-carries_homing_torque : goal.returns-then-carries_homing_torque
unfolding option_with_homing_ok
returns-then-carries_homing_torque c =
    let x = c.args.value in
    rw (c.option_ok.ensures, c.torque_ok.ensures, sym c.carries_homing_torque.ensures, c.if-carries_homing_torque.true) (all_above (option_ok (x % 2 ^ 8)) x)
