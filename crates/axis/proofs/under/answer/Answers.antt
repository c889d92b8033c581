-- `axis::under::answer` meets its contract.
-- Assumes nothing.
use mathlib.Core.Path.{ap, ◌∙◌}
use mir.Facts.{to_z-of_z}
use mir.Syntax.{w32}
use mir.Val.{SFits}
use Rattle.patterns.proofs.Numbers.{read32}
use Rattle.legs.specs.declared.events.Switches.{Switches}
use Rattle.ticks.specs.Motion.{driven}
use Rattle.cells.specs.Cells.{settings_in, motion_in}
use Rattle.axis.proofs.Branches.{bits-of-tick, handed}
use borrow.Author.Rules.{rules}
use Rattle.axis.proofs.under.answer.Goals as goal

pub returns : goal.returns
returns c =
    let at_tick : SFits w32 c.args.inputs.now.tick.position = search rules in
    let put : SFits w32 c.place_in-place.result.position = search rules in
    let x = c.args in
    let l = x.axis.now in
    let t = x.inputs.now.tick in
    let bits = bits-of-tick t x.inputs.now.switches x.inputs.now.same in
    rw (to_z-of_z c.ranges.torque, to_z-of_z c.ranges.speed)
    (handed (settings_in l) t (driven (motion_in l) x.d.state x.d.mode x.d.alarm) x.torque x.speed
    c.phase-phase.ensures
    c.is_homed.ensures
    c.command_target-followed.ensures
    c.home.ensures
    (read32 c.place_in-place.result.position put.sfits ∙ c.place_in-place.ensures.position ∙ rw (read32 c.home.result c.home.type_inv, read32 t.position at_tick.sfits))
    c.place_in-place.ensures.clamped
    c.is_some-following.ensures
    (c.limit_active-limited.ensures ∙ rw (c.positive_on-positive.ensures ∙ ap (λ (y : Switches). y.positive) bits, c.negative_on-negative.ensures ∙ ap (λ (y : Switches). y.negative) bits))
    (read32 c.number.result c.number.type_inv ∙ c.number.ensures)
    c.statusword.ensures)
