-- No refusal has the number of what is accepted.
-- Assumes nothing.
use mathlib.Core.Path.{◌≡◌}
use native.Mathlib.Omega.{arith}
use Rattle.settings.specs.declared.Refusal.{Refusal}
use Rattle.settings.specs.declared.Refusal.TheVariants.{OutOfSequence, UnknownLayout, OutOfRange, ChecksumMismatch, LimitsCrossed, OutOfReach, DriveActive, NoSettings, BufferTooShort, LongValue, HomingTorqueLost, RailUnfit}
use Rattle.settings.specs.Refusal.{number_of}

pub not-zero : (r : Refusal) → number_of r ≡ 0 → ⊥
not-zero OutOfSequence e = omega arith
not-zero UnknownLayout e = omega arith
not-zero OutOfRange e = omega arith
not-zero ChecksumMismatch e = omega arith
not-zero LimitsCrossed e = omega arith
not-zero OutOfReach e = omega arith
not-zero DriveActive e = omega arith
not-zero NoSettings e = omega arith
not-zero BufferTooShort e = omega arith
not-zero LongValue e = omega arith
not-zero HomingTorqueLost e = omega arith
not-zero RailUnfit e = omega arith
