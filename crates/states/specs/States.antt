-- 01, "Drive state": the eight states.
-- Assumes nothing.
use Rattle.std.specs.Prelude.{ℕ, Bool, cond, ◌||◌, eqb}
use Rattle.states.specs.declared.State.{State}
use Rattle.states.specs.declared.State.TheVariants.{NotReady, SwitchOnDisabled, Ready, SwitchedOn, OperationEnabled, QuickStopActive, FaultReaction, Fault}

-- states are told apart by number
abbrev pub state_number : State → ℕ
state_number NotReady = 0
state_number SwitchOnDisabled = 1
state_number Ready = 2
state_number SwitchedOn = 3
state_number OperationEnabled = 4
state_number QuickStopActive = 5
state_number FaultReaction = 6
state_number Fault = 7

abbrev pub is : State → State → Bool
is s t = eqb (state_number s) (state_number t)

-- the state of a `state_number`; of a number past the last, what a fresh axis has
unfoldable pub state_at : ℕ → State
state_at n =
    cond (eqb n 1) SwitchOnDisabled
    (cond (eqb n 2) Ready
    (cond (eqb n 3) SwitchedOn
    (cond (eqb n 4) OperationEnabled
    (cond (eqb n 5) QuickStopActive
    (cond (eqb n 6) FaultReaction
    (cond (eqb n 7) Fault NotReady))))))

-- Operation enabled or Quick stop active
abbrev pub live_of : State → Bool
live_of s = is s OperationEnabled || is s QuickStopActive
