-- The narrow gear. 02, (iii): "Where the clamped target less offset and the product both fit 32 bits signed, use 32-bit numbers inside." Here is
-- what it answers; that it has "no wider number in it" stands in its code (`src/narrow.rt`). The geared count is without home, as in 6.
-- Assumes nothing.
use Rattle.std.specs.Prelude.{ℕ, suc, ◌+◌, ◌-◌, ◌*◌, ◌^◌, min, ◌≡◌, true, cond, ◌&&◌, ℤ, pos, negsuc, ◌-ℤ◌, ◌*ℤ◌, None, Option, Some}
use Rattle.counts.specs.Divide.{floor_div}
use Rattle.counts.specs.Fits.{fits}
use Rattle.settings.specs.declared.Settings.{Settings}
use Rattle.settings.specs.Ranges.{in_range}
use Rattle.gears.specs.Gear.{within_limits, capped_numerator, divisor_of, geared_of, plain_gear}

-- "the clamped target less offset"
abbrev pub units_of : Settings → ℤ → ℤ
units_of s target = within_limits s target -ℤ s.offset

-- of so many units, a numerator and a denominator: the floored quotient where the units and the product fit, else too wide. Where the
-- numerator is not 0, units that do not fit make a product that does not
unfoldable pub narrowed : ℤ → ℕ → ℕ → Option ℤ
narrowed units n d = cond (fits 32 units && fits 32 (units *ℤ pos n)) (Some (floor_div (units *ℤ pos n) d)) None

-- with the guards of the wide gear
unfoldable pub narrow_of : Settings → ℤ → Option ℤ
narrow_of s target = narrowed (units_of s target) (capped_numerator s) (divisor_of s.denominator)

-- "for every acceptable sheet and target it answers "too wide" exactly where either does not fit, else the geared count": with no guard, and of every
-- sheet in range, acceptable or not
abbrev pub NarrowAnswers : Type 0
NarrowAnswers =
    (s : Settings) → in_range s ≡ true → (target : ℤ)
    → narrow_of s target
    ≡ cond (fits 32 (units_of s target) && fits 32 (units_of s target *ℤ pos s.numerator)) (Some (plain_gear s (within_limits s target))) None

-- "The geared count is the same for every target": the narrow gear's where it answers, else the wide gear's
abbrev pub count_by : Settings → ℤ → Option ℤ → ℤ
count_by s target (Some count) = count
count_by s target None = geared_of s (within_limits s target)

abbrev pub SameCount : Type 0
SameCount = (s : Settings) (target : ℤ) → count_by s target (narrow_of s target) ≡ geared_of s (within_limits s target)

-- What the code's steps come to.
-- An i32 with 2^31 added
abbrev pub biased_of : ℤ → ℕ
biased_of (pos n) = n + 2 ^ 31
biased_of (negsuc n) = 2 ^ 31 - suc n

-- a product, held where it is past 2^31 for certain: at 2^31 and one step of its upper half
abbrev pub held_product : ℕ → ℕ → ℕ
held_product a b = min (a * b) (2 ^ 31 + 2 ^ 16)
