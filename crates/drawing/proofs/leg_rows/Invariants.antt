-- What is left of the legs, printed from here on, is all of them, printed from the start.
use Rattle.std.proofs.Common.{◌≡◌, drop}
use Rattle.page.specs.Page.{seen, printed}
use Rattle.drawing.specs.Picture.{leg_rows, last_cell}
use Rattle.drawing.proofs.leg_rows.Given as goal

abbrev pub invariant-loop-leg : goal.invariant-loop-leg
invariant-loop-leg l =
    record {
      text : printed (seen l.page) (leg_rows l.rail l.cell (drop l.leg-index l.legs)) ≡ printed (seen l.fn.page) (leg_rows l.rail l.start l.legs);
      cell : last_cell l.cell (drop l.leg-index l.legs) ≡ last_cell l.start l.legs;
    }
