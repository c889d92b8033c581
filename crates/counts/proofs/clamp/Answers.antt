-- `counts::clamp` meets its contract: its two tests are the definition's.
-- Assumes nothing.
use mathlib.Core.Path.{◌≡◌}
use mathlib.Core.Bool.{Bool}
use lib.IntN.{ℤ}
use lib.Signed.{lt_z}
use mir.Facts.{to_z-of_z}
use mir.Syntax.{Width}
use mir.Val.{SFits, to_z, of_z}
use Rattle.counts.specs.Clamp.{clamped}
use Rattle.counts.proofs.clamp.Goals as goal

-- a test of two numbers as the machine holds them is one of the numbers
tested : {w : Width} {a b : ℤ} (t : Bool) → SFits w a → SFits w b → lt_z (to_z w (of_z w a)) (to_z w (of_z w b)) ≡ t → lt_z a b ≡ t
tested t f g e = rw (to_z-of_z f, to_z-of_z g) at e

pub returns-then-x-low : goal.returns-then-x-low
unfolding clamped
returns-then-x-low c = rw (to_z-of_z c.ranges.low, tested _ c.ranges.x c.ranges.low c.if-x-low.true)

pub returns-then-high-x : goal.returns-then-high-x
unfolding clamped
returns-then-high-x c =
    rw (to_z-of_z c.ranges.high, tested _ c.ranges.x c.ranges.low c.if-x-low.false, tested _ c.ranges.high c.ranges.x c.if-high-x.true)

pub returns-else-high-x : goal.returns-else-high-x
unfolding clamped
returns-else-high-x c =
    rw (to_z-of_z c.ranges.x, tested _ c.ranges.x c.ranges.low c.if-x-low.false, tested _ c.ranges.high c.ranges.x c.if-high-x.false)
