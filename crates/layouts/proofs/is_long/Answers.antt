-- `layouts::is_long` meets its contract: its tests are those of the three positions.
-- Assumes nothing.
use mir.Facts.{to_z-of_z}
use mir.Syntax.{w32}
use mir.Val.{SFits}
use Rattle.settings.specs.Ranges.{positions_fit}
use Rattle.layouts.proofs.is_long.Goals as goal

pub returns : goal.returns
unfolding positions_fit
returns c =
    let s = c.args.s in
    let given = c.struct_told-1.given.1.1.1 in
    let o : SFits w32 s.offset = record { sfits = given.0.1 } in
    let l : SFits w32 s.lower = record { sfits = given.1.1.1.0.1 } in
    let u : SFits w32 s.upper = record { sfits = given.1.1.1.1.0.1 } in
    rw (c.fits_28_bits.ensures, c.fits_28_bits-2.ensures, c.fits_28_bits-3.ensures, to_z-of_z o, to_z-of_z l, to_z-of_z u)
