-- 01, "A tick": what it comes to, its answer, and what the axis keeps of it.
-- Assumes nothing.
use Rattle.settings.specs.declared.Refusal.TheVariants.{NoSettings}
use Rattle.ticks.specs.declared.Tick.{Tick}
use Rattle.ticks.specs.Motion.{Motion}
use Rattle.answers.specs.Answer.{refused_answer, Answered, answered_in}
use Rattle.rules.specs.Axis.{Active, Nothing, Set, Axis, Ticked}

-- an axis with another motion
abbrev pub with_motion : Axis → Motion → Axis
with_motion a motion = record { active = a.active; pending = a.pending; motion = motion }

-- the axis goes on with what a tick under settings leaves
abbrev pub gone : Axis → Answered → Ticked
gone a done = record { axis = with_motion a done.motion; answer = done.answer }

-- 8: "tick before any takeover … nothing changes"
abbrev pub tick_under : Active → Axis → Tick → Ticked
tick_under Nothing a t = record { axis = a; answer = refused_answer NoSettings }
tick_under (Set s) a t = gone a (answered_in s a.motion t)

unfoldable pub tick_of : Axis → Tick → Ticked
tick_of a t = tick_under a.active a t
