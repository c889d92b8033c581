-- 01, "Refused words, ticks and buffers", and 02: the number of each refusal, with the trade word that they have for it.
-- Assumes nothing.
use Rattle.std.specs.Prelude.{ℕ, Bool, cond, List, [], ◌∷◌, Result, Ok, Err}
use Rattle.settings.specs.declared.Refusal.{Refusal}
use Rattle.settings.specs.declared.Refusal.TheVariants.{OutOfSequence, UnknownLayout, OutOfRange, ChecksumMismatch, LimitsCrossed, OutOfReach, DriveActive, NoSettings, BufferTooShort, LongValue, HomingTorqueLost, RailUnfit}

-- what a settings word, settings or a lent buffer meets: it is accepted, or refused for a reason
abbrev pub Verdict : Type 0
Verdict = Result Unit Refusal

abbrev pub number_of : Refusal → ℕ
number_of OutOfSequence = 1  -- out of turn
number_of UnknownLayout = 2  -- strange layout
number_of OutOfRange = 3  -- out of range
number_of ChecksumMismatch = 4  -- bad sum
number_of LimitsCrossed = 5  -- stops crossed
number_of OutOfReach = 6  -- out of reach
number_of DriveActive = 7  -- axis live
number_of NoSettings = 8  -- no sheet
number_of BufferTooShort = 9  -- short buffer
number_of LongValue = 10  -- long value
number_of HomingTorqueLost = 11  -- homing torque lost
number_of RailUnfit = 12  -- rail unfit

-- "an accepted word, a filled buffer and a tick not refused carry 0"
abbrev pub verdict_number : Verdict → ℕ
verdict_number (Ok tt) = 0
verdict_number (Err r) = number_of r

-- a row of the table: whether its case holds, and its number
pub record Test : Type 0 where
  pub holds : Bool
  pub number : ℕ

abbrev pub test : Bool → ℕ → Test
test holds number = record { holds = holds; number = number }

-- "A number is given in its case and in no other", tested in order: the first case that holds gives its number, and 0 stands for none
abbrev pub first_of : List Test → ℕ
first_of [] = 0
first_of (t ∷ ts) = cond t.holds t.number (first_of ts)
