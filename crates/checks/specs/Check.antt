-- What acceptable settings are, and which refusal others meet: 3, then 5, then 6.
-- Assumes nothing.
use Rattle.std.specs.Prelude.{ℕ, Bool, cond, ◌&&◌, Err, Ok}
use Rattle.std.specs.Int.Signed.{lt_z}
use Rattle.settings.specs.declared.Settings.{Settings}
use Rattle.settings.specs.declared.Refusal.TheVariants.{OutOfRange, LimitsCrossed, OutOfReach}
use Rattle.settings.specs.Refusal.{Verdict}
use Rattle.settings.specs.Ranges.{in_range}
use Rattle.layouts.specs.Layout.{is_layout, layout_holds}
use Rattle.gears.specs.Gear.{in_reach}

-- the stops are not crossed: the lower is below the upper
abbrev pub limits_apart : Settings → Bool
limits_apart s = lt_z s.lower s.upper

unfoldable pub acceptable : Settings → Bool
acceptable s = in_range s && limits_apart s && in_reach s

-- settings that may be sent in a layout: there is such a layout, it holds them, and they are acceptable
abbrev pub sendable : ℕ → Settings → Bool
sendable layout s = is_layout layout && layout_holds layout s && acceptable s

-- tests 5 and 6
unfoldable pub limits_verdict : Settings → Verdict
limits_verdict s = cond (limits_apart s) (cond (in_reach s) (Ok tt) (Err OutOfReach)) (Err LimitsCrossed)

-- tests 3, 5 and 6
unfoldable pub verdict_of : Settings → Verdict
verdict_of s = cond (in_range s) (limits_verdict s) (Err OutOfRange)
