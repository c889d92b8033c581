-- 01, "Position": "with position matched, Operation enabled and homed: clamp the target to the stops, subtract offset, times numerator,
-- over denominator, rounded towards minus infinity, added to home modulo 2^32 (signed). Otherwise the actual position."
-- Assumes nothing.
use Rattle.std.specs.Prelude.{Bool, false, cond, ◌&&◌, ◌||◌, ℤ, ◌+ℤ◌, None, Option, Some}
use Rattle.std.specs.Int.Signed.{lt_z}
use Rattle.counts.specs.Wrap.{wrapped}
use Rattle.states.specs.declared.State.{State}
use Rattle.states.specs.declared.State.TheVariants.{OperationEnabled}
use Rattle.states.specs.States.{is}
use Rattle.settings.specs.declared.Settings.{Settings}
use Rattle.gears.specs.Gear.{within_limits, geared_of, plain_gear}

-- the followed target, a value or none. matched: the tick's command is position and matched; the state is the new one
abbrev pub followed_of : Bool → State → Bool → ℤ → Option ℤ
followed_of matched state homed target = cond (matched && is state OperationEnabled && homed) (Some target) None

-- the count of a target
unfoldable pub count_of : Settings → ℤ → ℤ → ℤ
count_of s home target = wrapped (home +ℤ geared_of s (within_limits s target))

abbrev pub position_of : Settings → ℤ → Option ℤ → ℤ → ℤ
position_of s home (Some target) actual = count_of s home target
position_of s home None actual = actual

-- the same with no guard
abbrev pub plain_position : Settings → ℤ → Option ℤ → ℤ → ℤ
plain_position s home (Some target) actual = wrapped (home +ℤ plain_gear s (within_limits s target))
plain_position s home None actual = actual

-- "the followed target was clamped": it is outside the stops
abbrev pub outside_of : Settings → ℤ → Bool
outside_of s target = lt_z target s.lower || lt_z s.upper target

abbrev pub clamped_of : Settings → Option ℤ → Bool
clamped_of s (Some target) = outside_of s target
clamped_of s None = false
