-- `cells::put_inputs` meets its contract.
-- Assumes nothing.
use Rattle.std.proofs.Common.{to_z-of_z, rules}
use Rattle.cells.proofs.Laws.{fed-words}
use Rattle.cells.proofs.put_inputs.Goals as goal

pub returns : goal.returns
returns c =
    let x = c.args in
    rw (c.pattern.ensures, to_z-of_z c.ranges.position) (fed-words x.axis.now c.lent.ensures x.control x.switches x.position (search rules) (search rules))
