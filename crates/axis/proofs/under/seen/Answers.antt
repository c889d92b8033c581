-- `axis::under::seen` meets its contract.
-- Assumes nothing.
use mathlib.Core.Path.{◌∙◌}
use mir.Syntax.{w32}
use mir.Val.{SFits}
use Rattle.patterns.proofs.Numbers.{read32}
use Rattle.cells.specs.Cells.{motion_in}
use Rattle.axis.proofs.Branches.{bits-of-tick, seen_as}
use borrow.Author.Rules.{rules}
use Rattle.axis.proofs.under.seen.Goals as goal

pub returns : goal.returns
returns c =
    let at_tick : SFits w32 c.args.inputs.now.tick.position = search rules in
    let b = c.args in
    let i = b.inputs.now in
    let a = motion_in b.axis.now in
    seen_as
    i.tick
    a.switches
    a.position
    c.bit.ensures
    c.bit-2.ensures
    (c.moved-movement.ensures ∙ rw (read32 i.tick.position at_tick.sfits, read32 c.position.result c.position.type_inv, c.position.ensures))
    c.switches.ensures
    (bits-of-tick i.tick i.switches i.same)
