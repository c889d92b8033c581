-- 01: "Status bits 0 to 9 (hexadecimal, Not ready, Switch on disabled, Ready, Switched on, Operation enabled, Quick stop, Fault reaction,
-- Fault): 0000, 0250, 0231, 0233, 0237, 0217, 020F, 0208."
-- Assumes nothing.
use Rattle.std.specs.Prelude.{ℕ}
use Rattle.states.specs.declared.State.{State}
use Rattle.states.specs.declared.State.TheVariants.{NotReady, SwitchOnDisabled, Ready, SwitchedOn, OperationEnabled, QuickStopActive, FaultReaction, Fault}

abbrev pub status_of : State → ℕ
status_of NotReady = 0x0000
status_of SwitchOnDisabled = 0x0250
status_of Ready = 0x0231
status_of SwitchedOn = 0x0233
status_of OperationEnabled = 0x0237
status_of QuickStopActive = 0x0217
status_of FaultReaction = 0x020F
status_of Fault = 0x0208
