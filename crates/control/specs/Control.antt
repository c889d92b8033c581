-- 01, "Drive state": the commands of a control word, and a bit that rises. "Other commands need bit 7 clear: bit 1 clear is disable
-- voltage; else bit 2 clear quick stop; else bit 0 clear shutdown; else bit 3 clear switch on; else enable."
-- Assumes nothing.
use Rattle.std.specs.Prelude.{ℕ, Bool, cond, Option, Some, None}
use Rattle.counts.specs.Bit.{bit_of, rises}
use Rattle.control.specs.declared.ControlCommand.{ControlCommand}
use Rattle.control.specs.declared.ControlCommand.TheVariants.{DisableVoltage, QuickStop, Shutdown, SwitchOn, EnableOperation}

-- c where the bit is clear, else the rest
abbrev clear : ℕ → ℕ → ControlCommand → ControlCommand → ControlCommand
clear control place c rest = cond (bit_of control place) rest c

unfoldable pub control_command_of : ℕ → Option ControlCommand
control_command_of control =
    cond (bit_of control 7) None
    (Some
    (clear control 1 DisableVoltage
    (clear control 2 QuickStop
    (clear control 0 Shutdown
    (clear control 3 SwitchOn EnableOperation)))))

-- a control bit that is set now and was not in the word before
abbrev pub bit_rises : ℕ → ℕ → ℕ → Bool
bit_rises before control place = rises (bit_of before place) (bit_of control place)
