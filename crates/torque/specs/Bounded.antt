-- Demand 3, and 02, (v): "Every torque bound means that cap."
-- Assumes nothing.
use Rattle.std.specs.Prelude.{ℕ, min, ◌≤◌, ◌≡◌, true, false, ℤ, pos, neg_ℤ, ◌≤ℤ◌}
use Rattle.settings.specs.declared.Settings.{Settings}
use Rattle.modes.specs.declared.Mode.{Mode}
use Rattle.modes.specs.declared.Mode.TheVariants.{Homing}
use Rattle.modes.specs.Modes.{is_mode}
use Rattle.torque.specs.declared.LimitSet.{LimitSet}
use Rattle.torque.specs.Limits.{positive_limit, negative_limit, cap_of, positive_cap, negative_cap}

-- within the cap of the shown mode and the chosen set, each way
pub record Bounded (s : Settings) (mode : Mode) (set : LimitSet) (t : ℤ) : Type 0 where
  pub below : t ≤ℤ pos (positive_cap s mode set)
  pub above : neg_ℤ (pos (negative_cap s mode set)) ≤ℤ t

-- in every mode but 6, and where homing torque is not below the maximum, as in sheets of layouts 1 and 2, the cap is the base's: "the lesser of maximum and
-- chosen … limit"
pub record BaseCap (s : Settings) (mode : Mode) (limit : ℕ) : Type 0 where
  pub elsewhere : is_mode mode Homing ≡ false → cap_of s mode limit ≡ min s.maximum limit
  pub not_below : s.maximum ≤ s.homing → cap_of s mode limit ≡ min s.maximum limit

abbrev pub BaseCaps : Type 0
BaseCaps = (s : Settings) (mode : Mode) (limit : ℕ) → BaseCap s mode limit

-- demand 3's sentence, "torque lies within the limit chosen there, capped by the maximum": four inequalities
pub record WithinLimits (s : Settings) (set : LimitSet) (t : ℤ) : Type 0 where
  pub below_maximum : t ≤ℤ pos s.maximum
  pub below_limit : t ≤ℤ pos (positive_limit s set)
  pub above_maximum : neg_ℤ (pos s.maximum) ≤ℤ t
  pub above_limit : neg_ℤ (pos (negative_limit s set)) ≤ℤ t

-- it follows in every mode
abbrev pub StillWithinLimits : Type 0
StillWithinLimits = (s : Settings) (mode : Mode) (set : LimitSet) (t : ℤ) → Bounded s mode set t → WithinLimits s set t

-- and in mode 6 the torque is within the homing torque too
pub record WithinHomingTorque (s : Settings) (t : ℤ) : Type 0 where
  pub below : t ≤ℤ pos s.homing
  pub above : neg_ℤ (pos s.homing) ≤ℤ t

abbrev pub CappedInHoming : Type 0
CappedInHoming = (s : Settings) (mode : Mode) (set : LimitSet) (t : ℤ) → is_mode mode Homing ≡ true → Bounded s mode set t → WithinHomingTorque s t
