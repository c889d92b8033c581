-- The sign of a movement.
-- Assumes nothing.
use Rattle.std.specs.Prelude.{zero, suc, ℤ, pos, negsuc}
use Rattle.counts.specs.declared.Movement.{Movement}
use Rattle.counts.specs.declared.Movement.TheVariants.{Backward, Still, Forward}

-- of a difference of counts; 0 has no sign
abbrev pub movement_of : ℤ → Movement
movement_of (negsuc n) = Backward
movement_of (pos zero) = Still
movement_of (pos (suc n)) = Forward
