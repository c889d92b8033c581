-- A matched command's target, asked of the shown mode.
-- Assumes nothing.
use mathlib.Core.Path.{◌≡◌}
use mathlib.Core.Bool.{Bool, true, false, ◌&&◌, and-true, and-false}
use lib.IntN.{ℤ, pos}
use Rattle.states.specs.declared.State.{State}
use Rattle.modes.specs.declared.Mode.{Mode}
use Rattle.modes.specs.declared.Mode.TheVariants as mode
use Rattle.modes.specs.Modes.{is_mode, matched_of}
use Rattle.modes.proofs.Matched.{matched-mode}
use Rattle.commands.specs.declared.Command.{Command}
use Rattle.commands.specs.declared.Command.TheVariants.{Hybrid, Homing, Position, Torque, Rest}
use Rattle.commands.specs.Commands.{mode_of, target_in}
use Rattle.std.specs.Prelude.{None}
use Rattle.position.specs.Position.{followed_of}
use Rattle.ticks.specs.After.{target_of}

module _ (state : State) (homed : Bool) where
  -- of a position command, and of any other
  asked : (b : Bool) (target : ℤ) → followed_of (b && true) state homed target ≡ followed_of b state homed target
  asked b target = rw (and-true b)

  unasked : (b : Bool) → followed_of (b && false) state homed (pos 0) ≡ None
  unasked b = rw (and-false b)

  pub target-of : (c : Command) (m : Mode)
      → followed_of (matched_of (mode_of c) m && is_mode m mode.Position) state homed (target_in c) ≡ target_of c (matched_of (mode_of c) m) state homed
  target-of c m = rw (matched-mode (mode_of c) m mode.Position) (go c)
    where
      go : (c : Command)
          → followed_of (matched_of (mode_of c) m && is_mode (mode_of c) mode.Position) state homed (target_in c) ≡ target_of c (matched_of (mode_of c) m) state homed
      go (Hybrid h) = unasked (matched_of mode.Hybrid m)
      go (Homing request) = unasked (matched_of mode.Homing m)
      go (Position target request) = asked (matched_of mode.Position m) target
      go (Torque request) = unasked (matched_of mode.Torque m)
      go Rest = unasked (matched_of mode.None m)
