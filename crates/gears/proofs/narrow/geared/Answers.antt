-- `gears::narrow::geared` meets its contract: the difference of the biased numbers is that of the numbers.
-- Assumes nothing.
use mir.Facts.{to_z-of_z}
use mir.Syntax.{w32}
use mir.Val.{SFits}
use Rattle.gears.specs.Narrow.{narrow_of}
use Rattle.gears.proofs.Units.{apart-up, apart-down}
use borrow.Author.Rules.{rules}
use Rattle.gears.proofs.narrow.geared.Goals as goal

pub returns-then-offset-near : goal.returns-then-offset-near
unfolding narrow_of
returns-then-offset-near c =
    let near : SFits w32 c.within_limits.result = search rules in
    let offset : SFits w32 c.args.s.offset = search rules in
    let difference = apart-up near offset (rw (to_z-of_z near) at c.biased-near.ensures) (rw (to_z-of_z offset) at c.biased-offset.ensures) c.if-offset-near.true in
    rw (← (rw (to_z-of_z c.ranges.target) at c.within_limits.ensures), difference, ← c.capped-numerator.ensures) c.above.ensures

pub returns-else-offset-near : goal.returns-else-offset-near
unfolding narrow_of
returns-else-offset-near c =
    let near : SFits w32 c.within_limits.result = search rules in
    let offset : SFits w32 c.args.s.offset = search rules in
    let difference = apart-down near offset (rw (to_z-of_z near) at c.biased-near.ensures) (rw (to_z-of_z offset) at c.biased-offset.ensures) c.if-offset-near.false in
    rw (← (rw (to_z-of_z c.ranges.target) at c.within_limits.ensures), difference, ← c.capped-numerator.ensures) c.below.ensures
