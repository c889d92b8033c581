-- 01, "Torque": the bounds, "−(lesser of maximum and chosen negative limit) and the lesser of maximum and chosen positive limit"; 02, (v): "In mode 6 the
-- torque cap is the least of three: maximum, chosen limit, homing torque. Every torque bound means that cap."
-- Assumes nothing.
use Rattle.std.specs.Prelude.{ℕ, ◌-◌, ◌^◌, min, cond, pos, neg_ℤ}
use Rattle.settings.specs.declared.Settings.{Settings}
use Rattle.modes.specs.declared.Mode.{Mode}
use Rattle.modes.specs.declared.Mode.TheVariants.{Homing}
use Rattle.modes.specs.Modes.{is_mode}
use Rattle.torque.specs.declared.LimitSet.{LimitSet}
use Rattle.torque.specs.declared.LimitSet.TheVariants.{Set1, Set2}
use Rattle.torque.specs.declared.Bounds.{Bounds}

-- the chosen limits, as magnitudes
abbrev pub positive_limit : Settings → LimitSet → ℕ
positive_limit s Set1 = s.positive1
positive_limit s Set2 = s.positive2

abbrev pub negative_limit : Settings → LimitSet → ℕ
negative_limit s Set1 = s.negative1
negative_limit s Set2 = s.negative2

-- what caps every limit, in the mode shown after the tick's mode step: the maximum, and in mode 6 the homing torque too
abbrev pub ceiling_of : Settings → Mode → ℕ
ceiling_of s mode = cond (is_mode mode Homing) (min s.maximum s.homing) s.maximum

-- the one cap: "the lesser of maximum and chosen … limit", in mode 6 "the least of three: maximum, chosen limit, homing torque"
unfoldable pub cap_of : Settings → Mode → ℕ → ℕ
cap_of s mode limit = min (ceiling_of s mode) limit

abbrev pub positive_cap : Settings → Mode → LimitSet → ℕ
positive_cap s mode set = cap_of s mode (positive_limit s set)

abbrev pub negative_cap : Settings → Mode → LimitSet → ℕ
negative_cap s mode set = cap_of s mode (negative_limit s set)

-- a guard, so that every cap fits 32 bits signed: in range it changes nothing (`proofs/Guard.antt`)
abbrev pub guarded : ℕ → ℕ
guarded cap = min cap (2 ^ 31 - 1)

abbrev pub bounds_of : ℕ → ℕ → Bounds
bounds_of positive negative = record { low = neg_ℤ (pos (guarded negative)); high = pos (guarded positive) }

abbrev pub chosen_bounds : Settings → Mode → LimitSet → Bounds
chosen_bounds s mode set = bounds_of (positive_cap s mode set) (negative_cap s mode set)
