-- The examples of `specs/Examples.antt`, which the checker evaluates.
-- Assumes nothing.
use Rattle.std.specs.Prelude.{refl}
use Rattle.counts.specs.Wrap.{modulo, signed, wrapped}
use Rattle.numerals.specs.Writing.{digits}
use Rattle.drawing.specs.Strip.{column_of, glyph_at, glyphs}
use Rattle.drawing.specs.Picture.{leg_row, ended_at}
use Rattle.drawing.specs.Examples.{OfTheDocument, OfALongRail}

pub of_the_document : OfTheDocument
unfolding column_of glyph_at glyphs leg_row ended_at digits wrapped modulo signed
of_the_document = refl

pub of_a_long_rail : OfALongRail
unfolding column_of glyph_at glyphs leg_row ended_at digits wrapped modulo signed
of_a_long_rail = refl
