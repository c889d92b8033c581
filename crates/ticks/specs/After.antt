-- 01, "A tick": mode, drive state, homing; then control word, switches and position are remembered.
-- Assumes nothing.
use Rattle.std.specs.Prelude.{ℕ, Bool, cond, not, ◌&&◌, ◌||◌, ℤ, None, Option}
use Rattle.settings.specs.declared.Settings.{Settings}
use Rattle.states.specs.declared.State.{State}
use Rattle.states.specs.Alarm.{latched_of}
use Rattle.control.specs.Control.{bit_rises}
use Rattle.modes.specs.declared.Mode.{Mode}
use Rattle.commands.specs.declared.Command.{Command}
use Rattle.commands.specs.declared.Command.TheVariants.{Hybrid, Homing, Position, Torque, Rest}
use Rattle.legs.specs.Events.{View}
use Rattle.homing.specs.Phase.{Phase, homed_in}
use Rattle.homing.specs.Steps.{start_of, step_of}
use Rattle.position.specs.Position.{followed_of}
use Rattle.ticks.specs.declared.Tick.{Tick}
use Rattle.ticks.specs.Motion.{Motion}
use Rattle.ticks.specs.Rules.{mode_after, alarm_in, state_after, homing_in, view_with}

-- mode and drive state after a tick
abbrev pub new_mode : Motion → Tick → Mode
new_mode a t = mode_after a.mode a.state t

abbrev pub new_state : Settings → Motion → Tick → State
new_state s a t = state_after s a.state a.control t

-- "The start tick [...] picks a or c by HOM in that tick and counts no event", in a method of 02's by a limit; a later tick is a step
abbrev pub phase_after : Phase → ℕ → Bool → View → Phase
phase_after phase method starting v = cond starting (start_of method v.now) (step_of phase method v)

-- the same, of a motion; on: homing is matched and the new state is Operation enabled
abbrev pub phase_by : Settings → Motion → Tick → Bool → Phase
phase_by s a t on = phase_after a.phase s.method (bit_rises a.control t.control 4 && on) (view_with a.switches a.position t on)

unfoldable pub new_phase : Settings → Motion → Tick → Phase
new_phase s a t = phase_by s a t (homing_in t (new_mode a t) (new_state s a t))

-- "home is that tick's position": of the tick in which the axis becomes homed. A start under 35 homes anew, so home moves even if
-- the axis was homed.
abbrev pub home_after : ℤ → Bool → Bool → Bool → ℤ → ℤ
home_after home starting before after position = cond (after && (starting || not before)) position home

abbrev pub home_by : Motion → Tick → Bool → Phase → ℤ
home_by a t on phase = home_after a.home (bit_rises a.control t.control 4 && on) (homed_in a.phase) (homed_in phase) t.position

abbrev pub new_home : Settings → Motion → Tick → ℤ
new_home s a t = home_by a t (homing_in t (new_mode a t) (new_state s a t)) (new_phase s a t)

-- the target of a position command that is matched, enabled and homed
abbrev pub target_of : Command → Bool → State → Bool → Option ℤ
target_of (Position target request) matched state homed = followed_of matched state homed target
target_of (Hybrid h) matched state homed = None
target_of (Homing request) matched state homed = None
target_of (Torque request) matched state homed = None
target_of Rest matched state homed = None

-- "Then control word, switches and position are remembered"
abbrev pub motion_with : Tick → State → Mode → ℕ → Phase → ℤ → Motion
motion_with t state mode alarm phase home =
    record {
      state = state;
      mode = mode;
      alarm = alarm;
      phase = phase;
      home = home;
      control = t.control;
      switches = t.switches;
      position = t.position;
    }

abbrev pub motion_after : Settings → Motion → Tick → Motion
motion_after s a t =
    motion_with t (new_state s a t) (new_mode a t) (latched_of a.alarm a.state (new_state s a t) (alarm_in s t)) (new_phase s a t) (new_home s a t)
