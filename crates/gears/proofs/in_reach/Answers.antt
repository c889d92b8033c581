-- `gears::in_reach` meets its contract.
-- Assumes nothing.
use mir.Facts.{to_z-of_z}
use mir.Syntax.{w32}
use mir.Val.{SFits}
use Rattle.gears.specs.Gear.{in_reach}
use borrow.Author.Rules.{rules}
use Rattle.gears.proofs.in_reach.Goals as goal

pub returns : goal.returns
unfolding in_reach
returns c =
    let s = c.args.s in
    let l : SFits w32 s.lower = search rules in
    let u : SFits w32 s.upper = search rules in
    rw (c.within_reach.ensures, c.within_reach-2.ensures, to_z-of_z l, to_z-of_z u)
