-- 01, "Torque": "in Operation enabled or Quick stop active with a matched command, the demand clamped …; else 0".
-- Assumes nothing.
use Rattle.std.specs.Prelude.{Bool, cond, ℤ, pos, neg_ℤ}
use Rattle.counts.specs.Clamp.{clamped}
use Rattle.settings.specs.declared.Settings.{Settings}
use Rattle.modes.specs.declared.Mode.{Mode}
use Rattle.torque.specs.declared.LimitSet.{LimitSet}
use Rattle.torque.specs.Limits.{positive_cap, negative_cap, chosen_bounds}

-- mode: the one shown after the tick's mode step; on: the new state is Operation enabled or Quick stop active, and the command is matched
unfoldable pub torque_of : Settings → Mode → LimitSet → Bool → ℤ → ℤ
torque_of s mode set on demand = cond on (clamped demand (chosen_bounds s mode set).low (chosen_bounds s mode set).high) (pos 0)

-- the same with no guard
abbrev pub plain_torque : Settings → Mode → LimitSet → Bool → ℤ → ℤ
plain_torque s mode set on demand = cond on (clamped demand (neg_ℤ (pos (negative_cap s mode set))) (pos (positive_cap s mode set))) (pos 0)
