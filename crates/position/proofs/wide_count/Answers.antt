-- `position::wide_count` meets its contract: a sum modulo 2 ^ 32 may take its count modulo 2 ^ 32 first.
-- Assumes nothing.
use mir.Facts.{to_z-of_z}
use mir.Syntax.{w32}
use mir.Val.{SFits}
use Rattle.counts.proofs.Modulo.{wrapped_sum}
use Rattle.gears.specs.Gear.{within_limits, geared_of}
use Rattle.position.specs.Position.{count_of}
use borrow.Author.Rules.{rules}
use Rattle.position.proofs.wide_count.Goals as goal

pub returns : goal.returns
unfolding count_of
returns c =
    let r : SFits w32 c.sum.result = search rules in
    let count : SFits w32 c.geared-count.result = search rules in
    let near : SFits w32 c.within_limits-near.result = search rules in
    rw (
      to_z-of_z r,
      c.sum.ensures,
      to_z-of_z c.ranges.home,
      to_z-of_z count,
      c.geared-count.ensures,
      to_z-of_z near,
      c.within_limits-near.ensures,
      to_z-of_z c.ranges.target,
    )
    (wrapped_sum c.args.home (geared_of c.args.s (within_limits c.args.s c.args.target)))
