-- The gear, and the reach of the position limits (6). 01, "What a tick hands out": "clamp the target to the stops, subtract offset, times
-- numerator, over denominator, rounded towards minus infinity". A limit's own clamp changes nothing where the limits are not crossed, and
-- that is tested first.
-- Assumes nothing.
use Rattle.std.specs.Prelude.{ℕ, ◌^◌, min, max, Bool, ◌&&◌, ℤ, pos, neg_ℤ, ◌-ℤ◌, ◌*ℤ◌}
use Rattle.std.specs.Int.Signed.{le_z}
use Rattle.counts.specs.Clamp.{clamped}
use Rattle.counts.specs.Divide.{floor_div}
use Rattle.settings.specs.declared.Settings.{Settings}

-- "clamp the target to the stops"
abbrev pub within_limits : Settings → ℤ → ℤ
within_limits s target = clamped target s.lower s.upper

-- guards for fields that are out of range: in range they change nothing (`proofs/Guards.antt`)
abbrev pub capped_numerator : Settings → ℕ
capped_numerator s = min s.numerator (2 ^ 20)

abbrev pub divisor_of : ℕ → ℕ
divisor_of denominator = max 1 (min denominator (2 ^ 20))

unfoldable pub geared_of : Settings → ℤ → ℤ
geared_of s position = floor_div ((position -ℤ s.offset) *ℤ pos (capped_numerator s)) (divisor_of s.denominator)

-- the same with no guard: "subtract offset, times numerator, over denominator, rounded towards minus infinity". Of settings in range the two
-- are one (`proofs/Guards.antt`)
abbrev pub plain_gear : Settings → ℤ → ℤ
plain_gear s position = floor_div ((position -ℤ s.offset) *ℤ pos s.numerator) s.denominator

-- not "beyond ±2^30 counts"
abbrev pub within_reach : Settings → ℤ → Bool
within_reach s position = le_z (neg_ℤ (pos (2 ^ 30))) (geared_of s position) && le_z (geared_of s position) (pos (2 ^ 30))

unfoldable pub in_reach : Settings → Bool
in_reach s = within_reach s s.lower && within_reach s s.upper
