-- `axis::under::tick` meets its contract.
-- Assumes nothing.
use mathlib.Core.Path.{◌≡◌, ap, ◌∙◌}
use mir.Syntax.{w32}
use mir.Val.{SFits}
use Rattle.patterns.proofs.Numbers.{read32}
use Rattle.commands.specs.declared.Demand.{Demand}
use Rattle.commands.specs.Commands.{demand_of, alarm_of}
use Rattle.ticks.specs.Rules.{demand_in}
use Rattle.cells.specs.Cells.{settings_in}
use Rattle.axis.proofs.Branches.{bits-of-tick}
use Rattle.axis.proofs.Ticked.{ran}
use borrow.Author.Rules.{rules}
use Rattle.axis.proofs.under.tick.Goals as goal

pub returns : goal.returns
returns c =
    let at_tick : SFits w32 c.args.t.position = search rules in
    let b = c.args in
    let l = b.axis.now in
    let t = b.t in
    let demand : c.torque_demand-demand.result ≡ demand_in (settings_in l) t = c.torque_demand-demand.ensures ∙ ap (demand_of t.command) c.rated.ensures in
    ran l c.put_drive.new.axis c.homing_after-speed.new.axis c.put_inputs.new.axis t
    c.mode-wanted.ensures
    demand
    (c.alarms.ensures ∙ ap (λ (y : Demand). alarm_of y t.alarm) demand)
    c.drive_after-d.ensures.state
    c.drive_after-d.ensures.mode
    c.drive_after-d.ensures.alarm
    (c.torque_in-torque.ensures ∙ rw (c.is_live.ensures, c.is_matched.ensures))
    c.put_drive.ensures
    c.homing_on.ensures
    c.homing_after-speed.ensures
    (bits-of-tick t c.from.result c.from.ensures)
    (read32 t.position at_tick.sfits)
    c.put_inputs.ensures
    (c.answer.ensures ∙ rw (read32 c.torque_in-torque.result c.torque_in-torque.type_inv, read32 c.homing_after-speed.result c.homing_after-speed.type_inv))
