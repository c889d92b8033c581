-- `position::count_of` meets its contract: a count that the narrow gear answers is the wide gear's (`same_count`).
-- Assumes nothing.
use mathlib.Core.Path.{◌≡◌, sym}
use mir.Facts.{to_z-of_z}
use mir.Syntax.{w32}
use mir.Val.{SFits}
use Rattle.gears.specs.Gear.{within_limits, geared_of}
use Rattle.gears.proofs.Same.{same_count}
use Rattle.position.specs.Position.{count_of}
use borrow.Author.Rules.{rules}
use Rattle.position.proofs.count_of.Goals as goal

pub returns-in-Some : goal.returns-in-Some
unfolding count_of
returns-in-Some c =
    let r : SFits w32 c.sum.result = search rules in
    let n : SFits w32 c.in-Some.count = search rules in
    let e = rw (to_z-of_z c.ranges.target) at c.in-Some.ensures in
    let same : c.in-Some.count ≡ geared_of c.args.s (within_limits c.args.s c.args.target) =
    rw (sym e) at (same_count c.args.s c.args.target) in
    rw (to_z-of_z r, c.sum.ensures, to_z-of_z c.ranges.home, to_z-of_z n, same)
