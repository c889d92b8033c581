-- `drawing::leg_rows` meets its contract: row after row, each from the cell where the one before ended.
-- Assumes nothing.
use mir.Facts.{to_z-of_z}
use mir.Val.{SFits}
use Rattle.std.proofs.Common.{w64, to_z, ap, ◌∙◌, add-one}
use Rattle.page.specs.Page.{seen, printed}
use Rattle.drawing.specs.Picture.{leg_rows}
use Rattle.drawing.proofs.Rows.{one_row, one_cell, no_row}
use Rattle.drawing.proofs.leg_rows.Goals as goal

pub loop-leg-preserved : goal.loop-leg-preserved
loop-leg-preserved c =
    let l = c.loop-leg in
    let legs = c.args.legs.now in
    let e = c.leg_row-cell.ensures in
    let f : SFits w64 c.leg_row-cell.result = record { sfits = c.leg_row-cell.type_inv } in
    let at = to_z-of_z f ∙ e.cell in record {
      text = rw (add-one l.leg-index, at) (one_row c.args.rail legs l.leg-index (seen l.page) (seen c.leg_row-cell.new.page) (to_z w64 l.cell-bits) _ c.loop-leg-test.true e.text ∙ l.invariant.text);
      cell = rw (add-one l.leg-index, at) (one_cell c.args.rail legs l.leg-index (to_z w64 l.cell-bits) _ c.loop-leg-test.true ∙ l.invariant.cell);
    }

pub returns-clause-text : goal.returns-clause-text
returns-clause-text c =
    let l = c.loop-leg in
    let legs = c.args.legs.now in
    no_row c.args.rail legs l.leg-index (seen l.page) (to_z w64 l.cell-bits) c.loop-leg-test.false
    ∙ l.invariant.text
    ∙ ap (λ z. printed (seen c.args.page.now) (leg_rows c.args.rail z legs)) (to_z-of_z c.ranges.start)
