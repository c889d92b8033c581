-- What an axis keeps from tick to tick: the drive's state, homing, and the inputs of the tick before. What a fresh axis keeps (01, "Homing
-- routes" and "A tick"), and what a takeover clears of it (01, "The sheet"), among the parts that may be replaced.
-- Assumes nothing.
use Rattle.std.specs.Prelude.{ℕ, ℤ, pos}
use Rattle.legs.specs.declared.events.Switches.{Switches}
use Rattle.legs.specs.Events.{all_off}
use Rattle.states.specs.declared.State.{State}
use Rattle.states.specs.declared.State.TheVariants.{NotReady}
use Rattle.modes.specs.declared.Mode.{Mode}
use Rattle.modes.specs.declared.Mode.TheVariants.{None}
use Rattle.homing.specs.Phase.{Phase, Idle}

pub record Motion : Type 0 where
  pub state : State
  -- modes of operation display (01: shown mode)
  pub mode : Mode
  -- latched alarm number
  pub alarm : ℕ
  pub phase : Phase
  -- the count of home; of no meaning unless homed
  pub home : ℤ
  -- remembered inputs
  pub control : ℕ
  pub switches : Switches
  pub position : ℤ

-- "state Not ready, idle homing and neither homed nor error"; "a fresh axis remembers zeros and shows mode 0, alarm 0"
abbrev pub fresh_motion : Motion
fresh_motion =
    record {
      state = NotReady;
      mode = None;
      alarm = 0;
      phase = Idle;
      home = pos 0;
      control = 0;
      switches = all_off;
      position = pos 0;
    }

-- motion with its parts replaced: the drive's, homing's phase, home, and the remembered inputs
abbrev pub driven : Motion → State → Mode → ℕ → Motion
driven a state mode alarm =
    record {
      state = state;
      mode = mode;
      alarm = alarm;
      phase = a.phase;
      home = a.home;
      control = a.control;
      switches = a.switches;
      position = a.position;
    }

abbrev pub phased : Motion → Phase → Motion
phased a phase =
    record {
      state = a.state;
      mode = a.mode;
      alarm = a.alarm;
      phase = phase;
      home = a.home;
      control = a.control;
      switches = a.switches;
      position = a.position;
    }

abbrev pub home_at : Motion → ℤ → Motion
home_at a home =
    record {
      state = a.state;
      mode = a.mode;
      alarm = a.alarm;
      phase = a.phase;
      home = home;
      control = a.control;
      switches = a.switches;
      position = a.position;
    }

abbrev pub fed : Motion → ℕ → Switches → ℤ → Motion
fed a control switches position =
    record {
      state = a.state;
      mode = a.mode;
      alarm = a.alarm;
      phase = a.phase;
      home = a.home;
      control = control;
      switches = switches;
      position = position;
    }

-- "homed and homing error are cleared, homing is idle; drive state, shown mode, alarm number and remembered inputs stay"
abbrev pub idled : Motion → Motion
idled a = phased a Idle
