-- On settings in range the commanded position is the one with no guard.
-- Assumes nothing.
use Rattle.std.specs.Prelude.{None, Option, Some, ℤ}
use mathlib.Core.Path.{◌≡◌, refl}
use mathlib.Core.Bool.{true}
use lib.IntN.{ℤ}
use Rattle.settings.specs.declared.Settings.{Settings}
use Rattle.settings.specs.Ranges.{in_range}
use Rattle.gears.specs.Gear.{within_limits}
use Rattle.gears.proofs.Guards.{gear-plain}
use Rattle.position.specs.Position.{count_of, position_of, plain_position}

pub position-plain : (s : Settings) → in_range s ≡ true → (home : ℤ) (f : Option ℤ) (actual : ℤ)
    → position_of s home f actual ≡ plain_position s home f actual
unfolding count_of
position-plain s e home (Some target) actual = rw (gear-plain s e (within_limits s target))
position-plain s e home None actual = refl
