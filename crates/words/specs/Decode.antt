-- 01, "The sheet", and 02, (iv) and (v): the settings that the data of kinds 0 to 14 carry; kind 0 tells the layout.
-- Assumes nothing.
use Rattle.std.specs.Prelude.{ℕ, ◌+◌, ◌*◌, ◌/◌, ◌%◌, ◌^◌, cond, List, ℤ, get_or}
use Rattle.counts.specs.Wrap.{signed}
use Rattle.settings.specs.declared.Settings.{Settings}
use Rattle.layouts.specs.Layout.{width, carries_homing_torque}

abbrev pub at : List ℕ → ℕ → ℕ
at d kind = get_or d kind 0

abbrev pub layout_of : List ℕ → ℕ
layout_of d = at d 0

-- kind 14's four bits for offset, lower and upper stop
abbrev pub offset_top : List ℕ → ℕ
offset_top d = at d 14 % 2 ^ 4

abbrev pub lower_top : List ℕ → ℕ
lower_top d = at d 14 / 2 ^ 4 % 2 ^ 4

abbrev pub upper_top : List ℕ → ℕ
upper_top d = at d 14 / 2 ^ 8 % 2 ^ 4

-- two's complement over the bits that the layout has: the low 28, and in layouts 2 and 3 the top four. % 2 ^ width is a guard: on what words carry
-- it changes nothing
unfoldable pub position_from : ℕ → ℕ → ℕ → ℤ
position_from layout low top = signed (width layout) ((low + top * 2 ^ 28) % 2 ^ width layout)

-- kind 12: in layout 3 "bits 0 to 7 keep the option", else all of it is the option
abbrev pub option_from : List ℕ → ℕ
option_from d = cond (carries_homing_torque (layout_of d)) (at d 12 % 2 ^ 8) (at d 12)

-- in layout 3 "bits 8 to 19 hold the homing torque"; "Layouts 1 and 2 read as homing torque equal to the maximum"
abbrev pub homing_from : List ℕ → ℕ
homing_from d = cond (carries_homing_torque (layout_of d)) (at d 12 / 2 ^ 8 % 2 ^ 12) (at d 9)

-- with those given that layouts carry in their own ways, all else from the data
abbrev pub settings_from : ℤ → ℤ → ℤ → ℕ → ℕ → List ℕ → Settings
settings_from offset lower upper option homing d =
    record {
      method = at d 1;
      fast = at d 2;
      slow = at d 3;
      offset = offset;
      numerator = at d 5;
      denominator = at d 6;
      lower = lower;
      upper = upper;
      maximum = at d 9;
      positive1 = at d 10 % 2 ^ 14;
      negative1 = at d 10 / 2 ^ 14;
      positive2 = at d 11 % 2 ^ 14;
      negative2 = at d 11 / 2 ^ 14;
      option = option;
      rated = at d 13;
      homing = homing;
    }

unfoldable pub settings_of : List ℕ → Settings
settings_of d =
    settings_from
    (position_from (layout_of d) (at d 4) (offset_top d))
    (position_from (layout_of d) (at d 7) (lower_top d))
    (position_from (layout_of d) (at d 8) (upper_top d))
    (option_from d)
    (homing_from d)
    d
