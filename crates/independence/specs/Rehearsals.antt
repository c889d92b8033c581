-- 02, (vi), as rehearsals have it. Two axes that are not live, whose drives are equal, each fed the words of a sheet, in any layout that holds it, with no
-- tick between them (there the settings of before answer); the sheets differ in gear, offset and stops alone. Each is taken over (`RoundTrip`,
-- `demands/specs/Whole.antt`), and then the same ticks without position command are answered alike, whatever was in force, pending or homed before.
-- Proved in `proofs/Rehearsals.antt`.
-- Assumes nothing.
use Rattle.std.specs.Prelude.{ℕ, ◌≡◌, true, false, List, ◌++◌, map}
use Rattle.settings.specs.declared.Settings.{Settings}
use Rattle.checks.specs.Check.{sendable}
use Rattle.words.specs.Encode.{words_of}
use Rattle.states.specs.States.{live_of}
use Rattle.ticks.specs.declared.Tick.{Tick}
use Rattle.rules.specs.Axis.{Axis}
use Rattle.demands.specs.Events.{word, tick}
use Rattle.independence.specs.Alike.{EqualButUnits, EqualDrive, NoPosition, answers_from}

abbrev pub RehearsalsAlike : Type 0
RehearsalsAlike =
    (a b : Axis) (l m : ℕ) (s r : Settings) (ts : List Tick) → EqualDrive a.motion b.motion → live_of a.motion.state ≡ false
    → sendable l s ≡ true → sendable m r ≡ true → EqualButUnits s r → NoPosition ts
    → answers_from a (map word (words_of l s) ++ map tick ts) ≡ answers_from b (map word (words_of m r) ++ map tick ts)
