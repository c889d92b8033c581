-- After i turns the first i columns are printed.
use Rattle.std.proofs.Common.{◌≡◌}
use Rattle.page.specs.Page.{seen, printed}
use Rattle.drawing.specs.Strip.{glyphs}
use Rattle.drawing.proofs.strip.Given as goal

abbrev pub invariant-loop-column : goal.invariant-loop-column
invariant-loop-column l = seen l.page ≡ printed (seen l.fn.page) (glyphs l.columns l.frame l.mark l.column)
