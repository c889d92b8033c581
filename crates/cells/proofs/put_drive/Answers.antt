-- `cells::put_drive` meets its contract.
-- Assumes nothing.
use Rattle.cells.proofs.Laws.{driven-words}
use Rattle.cells.proofs.put_drive.Goals as goal

pub returns : goal.returns
returns c =
    let x = c.args in
    rw (c.from-2.ensures, c.from.ensures) (driven-words x.axis.now c.lent.ensures x.state x.mode x.alarm)
