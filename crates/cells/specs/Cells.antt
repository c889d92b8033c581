-- What the lent words mean. Every content of them means some axis.
--   0 to 7    motion: state, mode, alarm number, homing phase, home, control word, switches, position
--   8 to 22   the settings in force, as the data of their settings words, but offset and limits (12, 15, 16) in 32 bits, and the option (20) and homing
--             torque (22) each in a word of its own; word 8 is 0 exactly where none are in force
--   23        how many settings words are pending
--   24 to 38  their data; word 24 + k is of no meaning where k is not below that count
-- Assumes nothing.
use Rattle.std.specs.Prelude.{◌≡◌, ℕ, ◌+◌, ◌%◌, ◌^◌, cond, List, take, drop, replicate, ℤ, pos, ◌==◌, nat_lt}
use Rattle.counts.specs.Wrap.{wrapped}
use Rattle.settings.specs.declared.Settings.{Settings}
use Rattle.words.specs.Decode.{settings_from}
use Rattle.reader.specs.Pending.{Pending}
use Rattle.homing.specs.Phase.{phase_of}
use Rattle.ticks.specs.Motion.{Motion}
use Rattle.rules.specs.Axis.{Active, Nothing, Set, Axis, fresh_axis}
use Rattle.legs.specs.Events.{switches_in}
use Rattle.patterns.specs.Patterns.{word_at, state_at, mode_at}
use Rattle.cells.specs.Lists.{cells_from, values_from}

-- a word read as signed
abbrev pub signed_in : List ℕ → ℕ → ℤ
signed_in l k = wrapped (pos (word_at l k))

-- the settings that words 8 to 22 carry
abbrev pub settings_in : List ℕ → Settings
settings_in l = settings_from (signed_in l 12) (signed_in l 15) (signed_in l 16) (word_at l 20) (word_at l 22) (cells_from 8 14 l)

unfoldable pub active_in : List ℕ → Active
active_in l = cond (word_at l 8 == 0) Nothing (Set (settings_in l))

-- a value that has come; 0 where none has
abbrev pub value_in : List ℕ → ℕ → ℕ
value_in l k = cond (nat_lt k (word_at l 23)) (word_at l (24 + k)) 0

abbrev pub pending_in : List ℕ → Pending
pending_in l = record { count = word_at l 23; values = values_from 0 15 (value_in l) }

abbrev pub motion_in : List ℕ → Motion
motion_in l =
    record {
      state = state_at (word_at l 0);
      mode = mode_at (word_at l 1);
      alarm = word_at l 2;
      phase = phase_of (word_at l 3);
      home = signed_in l 4;
      control = word_at l 5 % 2 ^ 16;
      switches = switches_in (word_at l 6);
      position = signed_in l 7;
    }

unfoldable pub axis_in : List ℕ → Axis
axis_in l = record { active = active_in l; pending = pending_in l; motion = motion_in l }

-- zeros are a fresh axis
abbrev pub ZerosAreFresh : Type 0
ZerosAreFresh = axis_in (replicate 39 0) ≡ fresh_axis

-- the words of motion
abbrev pub motion_words : List ℕ → List ℕ
motion_words l = take 8 l

-- the words of motion, of the settings in force, of what is pending, and all but those of motion are as before
abbrev pub MotionKept : List ℕ → List ℕ → Type 0
MotionKept l m = motion_words m ≡ motion_words l

abbrev pub SettingsKept : List ℕ → List ℕ → Type 0
SettingsKept l m = take 15 (drop 8 m) ≡ take 15 (drop 8 l)

abbrev pub PendingKept : List ℕ → List ℕ → Type 0
PendingKept l m = drop 23 m ≡ drop 23 l

abbrev pub AllButMotionKept : List ℕ → List ℕ → Type 0
AllButMotionKept l m = drop 8 m ≡ drop 8 l
