-- `patterns::signed` meets its contract: the library's cast reads a word from 2 ^ 31 on less 2 ^ 32.
-- Assumes nothing.
use mathlib.Core.Path.{◌∙◌}
use Rattle.patterns.proofs.Numbers.{read32, read-word}
use Rattle.patterns.proofs.signed.Goals as goal

pub returns : goal.returns
returns c = read32 c.cast_signed.result c.cast_signed.type_inv ∙ c.cast_signed.ensures ∙ read-word c.args.word c.ranges.word.fits
