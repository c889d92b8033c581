-- `cells::append` meets its contract.
-- Assumes nothing.
use Rattle.std.proofs.Common.{refl, le-ltb, lt-ltb}
use Rattle.patterns.specs.Patterns.{word_at}
use Rattle.cells.proofs.Laws.{stored-value, unchanged}
use Rattle.cells.proofs.append.Goals as goal

pub returns-then-count-lt15 : goal.returns-then-count-lt15
returns-then-count-lt15 c =
    let l = c.args.axis.now in
    rw (lt-ltb _ 15 c.if-count-lt15.true) (stored-value l c.lent.ensures (word_at l 23) _ c.if-count-lt15.true refl)

pub returns-else-count-lt15 : goal.returns-else-count-lt15
returns-else-count-lt15 c = rw (le-ltb _ 15 c.if-count-lt15.false) unchanged
