-- 01, "Alarm number": "On entering Fault reaction it becomes the lowest set alarm bit's place plus 1; it is 0 again on leaving Fault."
-- Assumes nothing.
use Rattle.std.specs.Prelude.{ℕ, zero, suc, ◌+◌, Bool, cond, not, ◌&&◌}
use Rattle.counts.specs.Bit.{bit_of}
use Rattle.states.specs.declared.State.{State}
use Rattle.states.specs.declared.State.TheVariants.{FaultReaction, Fault}
use Rattle.states.specs.States.{is}

-- the first of n places, from `place` on, whose bit is set; past them where none is
unfoldable pub least_set : ℕ → ℕ → ℕ → ℕ
least_set zero place word = place
least_set (suc n) place word = cond (bit_of word place) place (least_set n (suc place) word)

unfoldable pub alarm_number_of : ℕ → ℕ
alarm_number_of alarm = least_set 32 0 alarm + 1

abbrev pub enters : State → State → State → Bool
enters s before after = not (is before s) && is after s

-- the number after a tick that takes the drive from `before` to `after`
abbrev pub latched_of : ℕ → State → State → ℕ → ℕ
latched_of number before after alarm =
    cond (enters FaultReaction before after) (alarm_number_of alarm) (cond (is before Fault && not (is after Fault)) 0 number)
