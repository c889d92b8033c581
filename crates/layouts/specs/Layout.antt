-- 02, (iv) and (v): the layouts of settings words, and all that sets them apart. A layout's number is the data of its start word.
-- Assumes nothing.
use Rattle.std.specs.Prelude.{ℕ, Bool, cond, not, ◌&&◌, ◌||◌, eqb}
use Rattle.counts.specs.Between.{between}
use Rattle.settings.specs.declared.Settings.{Settings}
use Rattle.settings.specs.Ranges.{positions_fit}

-- "A layout nobody defined is answered with 2": these are defined
abbrev pub is_layout : ℕ → Bool
is_layout layout = between 1 3 layout

-- the bits of offset and stops: "two's complement over 28 bits"; of layout 2, and so of 3: "The three values are then 32-bit signed."
abbrev pub width : ℕ → ℕ
width layout = cond (eqb layout 1) 28 32

-- how many words come before the end word, one of each kind from 0 on: in layouts 2 and 3 with "a kind 14 word after kind 13"
abbrev pub size : ℕ → ℕ
size layout = cond (eqb layout 1) 14 15

-- "Layout 3 is layout 2 with start data 3, and in the kind 12 word bits 8 to 19 hold the homing torque": it alone carries one
abbrev pub carries_homing_torque : ℕ → Bool
carries_homing_torque layout = eqb layout 3

-- "Layouts 1 and 2 read as homing torque equal to the maximum"; the values are compared, whatever their effect
abbrev pub homing_is_maximum : Settings → Bool
homing_is_maximum s = eqb s.homing s.maximum

-- a layout holds settings whose offset and stops fit its width, and whose homing torque it carries or is the maximum, as which it is read
abbrev pub layout_holds : ℕ → Settings → Bool
layout_holds layout s = positions_fit (width layout) s && (carries_homing_torque layout || homing_is_maximum s)

-- 10: "layout 1 is asked and the offset or a stop needs more than 28 bits"
abbrev pub long_value : ℕ → Settings → Bool
long_value layout s = eqb layout 1 && not (positions_fit 28 s)

-- 11: "an older layout is asked and homing torque differs from the maximum" (2 is tested before)
abbrev pub homing_torque_lost : ℕ → Settings → Bool
homing_torque_lost layout s = not (carries_homing_torque layout) && not (homing_is_maximum s)
