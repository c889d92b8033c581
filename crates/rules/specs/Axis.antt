-- An axis: the settings in force, the pending ones, and its motion. The code keeps it in lent words (`cells/specs/Cells.antt`, `axis_in`).
-- Assumes nothing.
use Rattle.settings.specs.declared.Settings.{Settings}
use Rattle.settings.specs.Refusal.{Verdict}
use Rattle.reader.specs.Pending.{Pending}
use Rattle.reader.specs.Read.{empty_pending}
use Rattle.ticks.specs.Motion.{Motion, fresh_motion}
use Rattle.answers.specs.declared.Answer.{Answer}

-- the settings in force (01: the sheet in force)
pub data Active : Type 0 where
  Nothing : Active
  Set : Settings → Active

pub record Axis : Type 0 where
  pub active : Active
  pub pending : Pending
  -- the drive's state, homing, and the inputs that it remembers from the tick before
  pub motion : Motion

-- after a word, with its verdict; after a tick, with its answer
pub record Worded : Type 0 where
  pub axis : Axis
  pub verdict : Verdict

pub record Ticked : Type 0 where
  pub axis : Axis
  pub answer : Answer

-- "Its fresh axis has no sheet, an empty unfinished one, state Not ready, idle homing and neither homed nor error"
abbrev pub fresh_axis : Axis
fresh_axis =
    record {
      active = Nothing;
      pending = empty_pending;
      motion = fresh_motion;
    }
