-- The narrow gear answers as 02 (iii) says, and its count is the wide gear's: both divide one product.
-- Assumes nothing.
use Rattle.std.specs.Prelude.{None, Some}
use mathlib.Core.Path.{◌≡◌, refl}
use mathlib.Core.Bool.{Bool, true, false, cond, ◌&&◌}
use lib.IntN.{ℤ, pos, ◌*ℤ◌}
use Rattle.settings.specs.declared.Settings.{Settings}
use Rattle.gears.specs.Gear.{within_limits, capped_numerator, geared_of}
use Rattle.counts.specs.Fits.{fits}
use Rattle.gears.specs.Narrow.{units_of, narrowed, narrow_of, count_by, NarrowAnswers, SameCount}
use Rattle.gears.proofs.Guards.{numerator-kept, denominator-kept}

pub narrow-answers : NarrowAnswers
unfolding narrow_of narrowed
narrow-answers s e target = rw (numerator-kept s e, denominator-kept s e)

chosen : (s : Settings) (target : ℤ) (t : Bool) → count_by s target (cond t (Some (geared_of s (within_limits s target))) None) ≡ geared_of s (within_limits s target)
chosen s target true = refl
chosen s target false = refl

pub same_count : SameCount
unfolding narrow_of narrowed geared_of
same_count s target = chosen s target (fits 32 (units_of s target) && fits 32 (units_of s target *ℤ pos (capped_numerator s)))
