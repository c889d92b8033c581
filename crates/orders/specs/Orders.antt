-- A tick's command: `hybrid` and the floats KP KD PD VD T P V, `homing I16`, `position I32 I16` (target, request), `torque I16` or `rest`.
-- Assumes nothing.
use Rattle.std.specs.Prelude.{ℕ, List, [], ◌∷◌, codes}
use Rattle.commands.specs.declared.Command.{Command}
use Rattle.commands.specs.declared.Command.TheVariants as command
use Rattle.cursors.specs.Names.{choice_read}
use Rattle.cursors.specs.Reading.{Reading, ◌>>=◌, given}
use Rattle.cursors.specs.declared.Expected.TheVariants as expected
use Rattle.hybrid.specs.declared.Hybrid.{Hybrid}
use Rattle.scanner.specs.Readings.{whole16_read, whole32_read, float_read}

unfoldable pub hybrid_read : Reading Hybrid
hybrid_read = do
  kp ← float_read
  kd ← float_read
  pd ← float_read
  vd ← float_read
  t ← float_read
  p ← float_read
  v ← float_read
  given (record { kp = kp; kd = kd; pd = pd; vd = vd; t = t; p = p; v = v })

-- a command by its name, with what comes after it
abbrev pub commands : List (List ℕ × Reading Command)
commands =
    (codes "hybrid", hybrid_read >>= λ floats. given (command.Hybrid floats))
    ∷ (codes "homing", whole16_read >>= λ request. given (command.Homing request))
    ∷ (codes "position", whole32_read >>= λ goal. whole16_read >>= λ request. given (command.Position goal request))
    ∷ (codes "torque", whole16_read >>= λ request. given (command.Torque request))
    ∷ (codes "rest", given command.Rest)
    ∷ []

unfoldable pub command_read : Reading Command
command_read = choice_read commands expected.Command
