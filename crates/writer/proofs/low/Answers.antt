-- `writer::low` meets its contract: the low 28 bits of a number's 32 are the number modulo 2 ^ 28.
-- Assumes nothing.
use mathlib.Core.Bool.{false}
use mir.Facts.{to_z-of_z}
use Rattle.words.proofs.Bits.{low_of}
use Rattle.writer.proofs.low.Goals as goal

pub returns : goal.returns
returns c = rw (c.pattern.ensures, to_z-of_z c.ranges.position) (low_of false c.args.position)
