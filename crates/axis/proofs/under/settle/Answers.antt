-- `axis::under::settle` meets its contract.
-- Assumes nothing.
use mathlib.Core.Path.{subst, sym, ap, ◌∙◌}
use mathlib.Core.Bool.{Bool, not, ◌&&◌}
use lib.IntN.{ℤ}
use mir.Facts.{to_z-of_z}
use Rattle.settings.specs.declared.Settings.{Settings}
use Rattle.legs.specs.Numbers.{leg_from}
use Rattle.homing.specs.Phase.{phase_of}
use Rattle.speed.specs.Speed.{leg_speed, moving_speed}
use Rattle.cells.specs.Cells.{settings_in, motion_in}
use Rattle.cells.specs.Writes.{Moved}
use Rattle.axis.specs.Calls.{arrived}
use Rattle.patterns.proofs.Numbers.{read32}
use Rattle.cells.proofs.Moved.{settings-moved}
use Rattle.axis.proofs.Branches.{moving}
use Rattle.axis.proofs.under.settle.Goals as goal

pub returns-then-is_running-halted : goal.returns-then-is_running-halted
returns-then-is_running-halted c =
    let x = c.args in
    let e = ap (λ (r : Bool). r && not x.halted) (sym c.is_running.ensures) ∙ c.if-is_running-halted.true in record {
      moved = subst (λ (y : ℤ). Moved x.axis.now (arrived (motion_in x.axis.now) (phase_of x.phase) y) c.put_stand.new.axis) (to_z-of_z c.ranges.position) c.put_stand.ensures;
      speed = read32 c.speed_in.result c.speed_in.type_inv
          ∙ c.speed_in.ensures
          ∙ ap (λ (s : Settings). leg_speed s (leg_from x.phase)) (settings-moved c.put_stand.ensures)
          ∙ sym (ap (moving_speed (settings_in x.axis.now)) (moving x.phase x.halted e));
    }
