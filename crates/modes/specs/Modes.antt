-- 01, "A tick" and "Mode".
-- Assumes nothing.
use Rattle.std.specs.Prelude.{ℕ, Bool, cond, not, ◌&&◌, ◌||◌, eqb, ℤ, pos, negsuc}
use Rattle.states.specs.declared.State.{State}
use Rattle.states.specs.declared.State.TheVariants.{OperationEnabled}
use Rattle.states.specs.States.{is}
use Rattle.modes.specs.declared.Mode.{Mode}
use Rattle.modes.specs.declared.Mode.TheVariants.{None, Hybrid, Homing, Position, Torque}

-- "Their modes are −1, 6, 8, 10; rest has none"; a fresh axis shows mode 0
abbrev pub mode_number : Mode → ℤ
mode_number None = pos 0
mode_number Hybrid = negsuc 0
mode_number Homing = pos 6
mode_number Position = pos 8
mode_number Torque = pos 10

-- modes are told apart by their numbers in that list
abbrev pub mode_ordinal : Mode → ℕ
mode_ordinal None = 0
mode_ordinal Hybrid = 1
mode_ordinal Homing = 2
mode_ordinal Position = 3
mode_ordinal Torque = 4

-- the mode of a `mode_ordinal`; of a number past the last, what a fresh axis has
unfoldable pub mode_at : ℕ → Mode
mode_at n = cond (eqb n 1) Hybrid (cond (eqb n 2) Homing (cond (eqb n 3) Position (cond (eqb n 4) Torque None)))

abbrev pub is_mode : Mode → Mode → Bool
is_mode m n = eqb (mode_ordinal m) (mode_ordinal n)

-- shown: the mode shown before the tick. "A command's mode becomes the shown mode if the state before was not Operation enabled, or
-- standstill is set. Otherwise the shown mode stays."
abbrev pub shown_of : Mode → Mode → State → Bool → Mode
shown_of wanted shown before still = cond (not (is_mode wanted None) && (not (is before OperationEnabled) || still)) wanted shown

-- shown: the mode shown after that step. "The command is matched if its mode is the shown one"; rest, which wants None, never is
abbrev pub matched_of : Mode → Mode → Bool
matched_of wanted shown = not (is_mode wanted None) && is_mode wanted shown
