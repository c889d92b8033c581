-- `counts::pattern` meets its contract: a number's bits are the number modulo 2 ^ 32.
-- Assumes nothing.
use mathlib.Core.Path.{◌∙◌}
use mir.Facts.{to_z-of_z}
use Rattle.counts.proofs.Modulo.{bits-modulo}
use Rattle.counts.proofs.pattern.Goals as goal

pub returns : goal.returns
returns c = (rw (to_z-of_z c.ranges.number) at c.cast_unsigned.ensures) ∙ bits-modulo c.args.number c.ranges.number
