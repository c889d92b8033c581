-- `drawing::column_of` meets its contract: below the rail, on it, and beyond it.
-- Assumes nothing.
use Rattle.drawing.proofs.Cells.{column-below, column-among, column-beyond}
use Rattle.drawing.proofs.column_of.Goals as goal

pub returns-in-Err : goal.returns-in-Err
returns-in-Err c = column-below c.args.rail c.ranges.cell c.in-Err.ensures

pub returns-in-Ok : goal.returns-in-Ok
returns-in-Ok c =
    let n = c.columns-columns in
    column-among c.args.rail n.result c.in-Ok.place n.ensures.value c.ranges.cell c.in-Ok.ensures c.if-place-length.true

pub returns-in-Ok-2 : goal.returns-in-Ok-2
returns-in-Ok-2 c =
    let n = c.columns-columns in
    column-beyond c.args.rail n.result c.in-Ok.place n.ensures.value c.ranges.cell c.in-Ok.ensures c.if-place-length.false
