-- 01, "A tick", "Homing routes": what a tick does to mode, drive state and homing, said of the tick and of what was before it. The rule of
-- a tick and the readings of a whole list both cite these.
-- Assumes nothing.
use Rattle.std.specs.Prelude.{ℕ, Bool, ◌&&◌, ℤ, ◌-ℤ◌}
use Rattle.counts.specs.Bit.{bit_of}
use Rattle.counts.specs.Wrap.{wrapped}
use Rattle.counts.specs.Movement.{movement_of}
use Rattle.settings.specs.declared.Settings.{Settings}
use Rattle.states.specs.declared.State.{State}
use Rattle.states.specs.declared.State.TheVariants.{OperationEnabled}
use Rattle.states.specs.States.{is}
use Rattle.control.specs.Control.{bit_rises}
use Rattle.drive.specs.Transitions.{next_state}
use Rattle.modes.specs.declared.Mode.{Mode}
use Rattle.modes.specs.declared.Mode.TheVariants.{Homing}
use Rattle.modes.specs.Modes.{is_mode, shown_of, matched_of}
use Rattle.commands.specs.declared.Demand.{Demand}
use Rattle.commands.specs.Commands.{mode_of, demand_of, alarm_of}
use Rattle.legs.specs.declared.events.Switches.{Switches}
use Rattle.legs.specs.Events.{View}
use Rattle.ticks.specs.declared.Tick.{Tick}

-- the shown mode after a tick: by the mode shown and the state before it
abbrev pub mode_after : Mode → State → Tick → Mode
mode_after shown state t = shown_of (mode_of t.command) shown state t.still

-- whether the command is matched, by the mode shown after that
abbrev pub matched_in : Tick → Mode → Bool
matched_in t mode = matched_of (mode_of t.command) mode

abbrev pub demand_in : Settings → Tick → Demand
demand_in s t = demand_of t.command s.rated

-- the alarm word with what the command adds to it
abbrev pub alarm_in : Settings → Tick → ℕ
alarm_in s t = alarm_of (demand_in s t) t.alarm

-- the new state: by the state and the control word before
abbrev pub state_after : Settings → State → ℕ → Tick → State
state_after s state control t = next_state state t.control control t.still s.option (alarm_in s t)

-- homing is matched and the new state is Operation enabled; `wanted` is the command's mode
abbrev pub homing_on : Mode → Mode → State → Bool
homing_on wanted mode state = is_mode wanted Homing && matched_of wanted mode && is state OperationEnabled

abbrev pub homing_in : Tick → Mode → State → Bool
homing_in t mode state = homing_on (mode_of t.command) mode state

-- "Homing starts when control bit 4 rises, homing is matched and the new state is Operation enabled."
abbrev pub starts_in : ℕ → Tick → Mode → State → Bool
starts_in control t mode state = bit_rises control t.control 4 && homing_in t mode state

-- what homing sees of a tick after the start; "A later tick with bit 4 clear, homing not matched or another state makes homing idle"
abbrev pub view_with : Switches → ℤ → Tick → Bool → View
view_with switches position t on =
    record {
      kept = bit_of t.control 4 && on;
      halted = bit_of t.control 8;
      movement = movement_of (wrapped (t.position -ℤ position));
      before = switches;
      now = t.switches;
    }

abbrev pub view_in : Switches → ℤ → Tick → Mode → State → View
view_in switches position t mode state = view_with switches position t (homing_in t mode state)
