-- `axis::under::put_stand` meets its contract.
-- Assumes nothing.
use mathlib.Core.Path.{sym, ◌∙◌}
use mir.Facts.{to_z-of_z}
use Rattle.homing.specs.Phase.{phase_of}
use Rattle.axis.proofs.Branches.{homed-there}
use Rattle.axis.proofs.under.put_stand.Goals as goal

pub returns-then-is_homed : goal.returns-then-is_homed
returns-then-is_homed c =
    let x = c.args in
    homed-there
    x.axis.now
    c.put_phase.new.axis
    (phase_of x.phase)
    c.put_phase.ensures
    x.position
    c.put_home.new.axis
    (sym c.is_homed.ensures ∙ c.if-is_homed.true)
    (to_z-of_z c.ranges.position)
    c.put_home.ensures
