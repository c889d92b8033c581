-- `settings::fields::in_range` meets its contract: every i32 is in the range of offset and limits.
-- Assumes nothing.
use mir.Syntax.{w32}
use mir.Val.{SFits}
use borrow.Author.Rules.{rules}
use Rattle.counts.proofs.Fits.{i32-fits}
use Rattle.settings.specs.Ranges.{positions_fit, in_range}
use Rattle.settings.proofs.fields.in_range.Goals as goal

pub returns : goal.returns
unfolding in_range positions_fit
returns c =
    let s = c.args.s in
    let o : SFits w32 s.offset = search rules in
    let l : SFits w32 s.lower = search rules in
    let u : SFits w32 s.upper = search rules in
    rw (i32-fits o, i32-fits l, i32-fits u, c.route_ok.ensures, c.gear_ok.ensures, c.torques_ok.ensures, c.drive_ok.ensures)
