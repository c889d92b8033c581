-- 01, "Drive state": at most one transition a tick.
-- Assumes nothing.
use Rattle.std.specs.Prelude.{ℕ, Bool, false, cond, not, ◌&&◌, ◌||◌, List, [], ◌∷◌, eqb, Option, Some, None}
use Rattle.states.specs.declared.State.{State}
use Rattle.states.specs.declared.State.TheVariants.{NotReady, SwitchOnDisabled, Ready, SwitchedOn, OperationEnabled, QuickStopActive, FaultReaction, Fault}
use Rattle.control.specs.declared.ControlCommand.{ControlCommand}
use Rattle.control.specs.declared.ControlCommand.TheVariants.{DisableVoltage, QuickStop, Shutdown, SwitchOn, EnableOperation}
use Rattle.states.specs.States.{is}
use Rattle.control.specs.Control.{control_command_of, bit_rises}

-- commands are told apart by number
abbrev pub command_number : ControlCommand → ℕ
command_number DisableVoltage = 1
command_number QuickStop = 2
command_number Shutdown = 3
command_number SwitchOn = 4
command_number EnableOperation = 5

-- a control word asks for d: it may ask for nothing
abbrev pub asks : Option ControlCommand → ControlCommand → Bool
asks None d = false
asks (Some c) d = eqb (command_number c) (command_number d)

abbrev among : Option ControlCommand → List ControlCommand → Bool
among c [] = false
among c (d ∷ ds) = asks c d || among c ds

-- a transition: from a state, on any of some commands, to a state
pub record Transition : Type 0 where
  pub from : State
  pub on : List ControlCommand
  pub to : State

-- the paper's bullets but the last, one line a transition
abbrev pub bullets : List Transition
bullets =
    record { from = SwitchOnDisabled; on = Shutdown ∷ []; to = Ready }
    ∷ record { from = Ready; on = SwitchOn ∷ EnableOperation ∷ []; to = SwitchedOn }
    ∷ record { from = Ready; on = DisableVoltage ∷ QuickStop ∷ []; to = SwitchOnDisabled }
    ∷ record { from = SwitchedOn; on = EnableOperation ∷ []; to = OperationEnabled }
    ∷ record { from = SwitchedOn; on = Shutdown ∷ []; to = Ready }
    ∷ record { from = SwitchedOn; on = DisableVoltage ∷ QuickStop ∷ []; to = SwitchOnDisabled }
    ∷ record { from = OperationEnabled; on = SwitchOn ∷ []; to = SwitchedOn }
    ∷ record { from = OperationEnabled; on = Shutdown ∷ []; to = Ready }
    ∷ record { from = OperationEnabled; on = DisableVoltage ∷ []; to = SwitchOnDisabled }
    ∷ record { from = OperationEnabled; on = QuickStop ∷ []; to = QuickStopActive }
    ∷ []

-- the transition that a command takes from a state; "all else stays"
abbrev pub from_state : State → Option ControlCommand → List Transition → State
from_state s c [] = s
from_state s c (t ∷ ts) = cond (is s t.from && among c t.on) t.to (from_state s c ts)

-- "at standstill, option 2 to Switch on disabled by itself, bit 7 not looked at, and option 6 with enable to Operation enabled"
abbrev pub standstill_of : ℕ → Bool → State
standstill_of option enable =
    cond (eqb option 2) SwitchOnDisabled (cond (eqb option 6) (cond enable OperationEnabled QuickStopActive) QuickStopActive)

-- the last bullet: "Quick stop active: disable voltage to Switch on disabled; else at standstill, …"
abbrev pub quick_stop_of : Option ControlCommand → Bool → ℕ → State
quick_stop_of c still option =
    cond (asks c DisableVoltage) SwitchOnDisabled (cond still (standstill_of option (asks c EnableOperation)) QuickStopActive)

-- what a state but the fault states goes to where there is no alarm; "Not ready (fresh) goes to Switch on disabled"
abbrev pub quiet_of : State → Option ControlCommand → Bool → ℕ → State
quiet_of NotReady c still option = SwitchOnDisabled
quiet_of SwitchOnDisabled c still option = from_state SwitchOnDisabled c bullets
quiet_of Ready c still option = from_state Ready c bullets
quiet_of SwitchedOn c still option = from_state SwitchedOn c bullets
quiet_of OperationEnabled c still option = from_state OperationEnabled c bullets
quiet_of QuickStopActive c still option = quick_stop_of c still option
quiet_of FaultReaction c still option = FaultReaction
quiet_of Fault c still option = Fault

-- "An alarm moves every state but the two fault states to Fault reaction. Fault reaction goes to Fault. Fault goes to Switch on disabled
-- when control bit 7 rises and no alarm is present."
abbrev pub settled : State → Bool → Bool → State → State
settled FaultReaction alarm reset quiet = Fault
settled Fault alarm reset quiet = cond (reset && not alarm) SwitchOnDisabled Fault
settled NotReady alarm reset quiet = cond alarm FaultReaction quiet
settled SwitchOnDisabled alarm reset quiet = cond alarm FaultReaction quiet
settled Ready alarm reset quiet = cond alarm FaultReaction quiet
settled SwitchedOn alarm reset quiet = cond alarm FaultReaction quiet
settled OperationEnabled alarm reset quiet = cond alarm FaultReaction quiet
settled QuickStopActive alarm reset quiet = cond alarm FaultReaction quiet

-- the state after a tick: control word, the word before it, standstill, quick stop option, and the alarm word with what the command adds to
-- it. An option other than 2 and 6, which no acceptable settings have, stays in Quick stop active.
unfoldable pub next_state : State → ℕ → ℕ → Bool → ℕ → ℕ → State
next_state s control before still option alarm =
    settled s (not (eqb alarm 0)) (bit_rises before control 7) (quiet_of s (control_command_of control) still option)
