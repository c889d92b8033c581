-- `cells::put_home` meets its contract.
-- Assumes nothing.
use Rattle.std.proofs.Common.{to_z-of_z, rules}
use Rattle.cells.proofs.Laws.{home-words}
use Rattle.cells.proofs.put_home.Goals as goal

pub returns : goal.returns
returns c =
    rw (c.pattern.ensures, to_z-of_z c.ranges.home) (home-words c.args.axis.now c.lent.ensures c.args.home (search rules))
