-- The events of ticks, answers and settings as plain 32-bit words.
-- An event is seven: its command (1 hybrid, 2 homing, 3 position, 4 torque, any other number rest); control word; actual position; inputs
-- (bits 0 to 3: POT, NOT, HOM, Z; 4: standstill; 5: limit set 2); alarm word; torque request; target. Hybrid's seven floats stand in a list
-- of their own.
-- Assumes nothing.
use Rattle.std.specs.Prelude.{ℕ, ◌%◌, ◌^◌, Bool, true, false, cond, List, [], ◌∷◌, eqb, ltb, Float, ℤ, pos, negsuc, get_or}
use Rattle.std.specs.Float.{binary32}
use Rattle.std.specs.Float.Ieee.{of_bits}
use Rattle.counts.specs.Bit.{bit_of}
use Rattle.counts.specs.Clamp.{clamped}
use Rattle.counts.specs.Wrap.{modulo, wrapped}
use Rattle.settings.specs.declared.Settings.{Settings}
use Rattle.hybrid.specs.declared.Hybrid.{Hybrid}
use Rattle.commands.specs.declared.Command.{Command}
use Rattle.commands.specs.declared.Command.TheVariants as command
use Rattle.torque.specs.declared.LimitSet.{LimitSet}
use Rattle.torque.specs.declared.LimitSet.TheVariants.{Set1, Set2}
use Rattle.legs.specs.Events.{switches_in}
use Rattle.patterns.specs.Patterns.{word_at}
use Rattle.ticks.specs.declared.Tick.{Tick}
use Rattle.answers.specs.declared.Answer.{Answer}

-- past the last stand zeros
abbrev pub float_in : List Float → ℕ → Float
float_in f k = get_or f k (of_bits binary32 0)

-- a word read as signed
abbrev pub signed_at : List ℕ → ℕ → ℤ
signed_at e k = wrapped (pos (word_at e k))

-- a control word has 16 bits: a number that needs more is none, and is taken as 0, disable voltage
abbrev pub control_in : ℕ → ℕ
control_in w = cond (ltb w (2 ^ 16)) w 0

-- a torque request has 16 bits: one beyond them is the nearest, which no torque limit of settings, at most 3000, can tell from it
abbrev pub request_at : List ℕ → ℕ → ℤ
request_at e k = clamped (signed_at e k) (negsuc 32767) (pos 32767)

-- the low half of the inputs, of which bits 0 to 5 are looked at
abbrev pub inputs_at : List ℕ → ℕ → ℕ
inputs_at e k = word_at e k % 2 ^ 16

abbrev pub set2_if : Bool → LimitSet
set2_if true = Set2
set2_if false = Set1

unfoldable pub gains_in : List Float → Hybrid
gains_in f =
    record {
      kp = float_in f 0;
      kd = float_in f 1;
      pd = float_in f 2;
      vd = float_in f 3;
      t = float_in f 4;
      p = float_in f 5;
      v = float_in f 6;
    }

unfoldable pub command_in : List ℕ → List Float → Command
command_in e f =
    cond (eqb (word_at e 0) 1) (command.Hybrid (gains_in f))
    (cond (eqb (word_at e 0) 2) (command.Homing (request_at e 5))
    (cond (eqb (word_at e 0) 3) (command.Position (signed_at e 6) (request_at e 5))
    (cond (eqb (word_at e 0) 4) (command.Torque (request_at e 5)) command.Rest)))

unfoldable pub tick_in : List ℕ → List Float → Tick
tick_in e f =
    record {
      control = control_in (word_at e 1);
      command = command_in e f;
      position = signed_at e 2;
      switches = switches_in (inputs_at e 3);
      still = bit_of (inputs_at e 3) 4;
      set = set2_if (bit_of (inputs_at e 3) 5);
      alarm = word_at e 4;
    }

-- an answer's number, torque, speed, position, statusword, mode and alarm number
unfoldable pub answer_words : Answer → List ℕ
answer_words a =
    a.number
    ∷ modulo 32 a.torque
    ∷ modulo 32 a.speed
    ∷ modulo 32 a.position
    ∷ a.status
    ∷ modulo 32 a.mode
    ∷ a.alarm
    ∷ []

-- a list's first seven elements, spelled out
abbrev pub seven_of : List ℕ → List ℕ
seven_of l = get_or l 0 0 ∷ get_or l 1 0 ∷ get_or l 2 0 ∷ get_or l 3 0 ∷ get_or l 4 0 ∷ get_or l 5 0 ∷ get_or l 6 0 ∷ []

-- sixteen fields in the order of the struct
unfoldable pub settings_of_fields : List ℕ → Settings
settings_of_fields f =
    record {
      method = word_at f 0;
      fast = word_at f 1;
      slow = word_at f 2;
      offset = signed_at f 3;
      numerator = word_at f 4;
      denominator = word_at f 5;
      lower = signed_at f 6;
      upper = signed_at f 7;
      maximum = word_at f 8;
      positive1 = word_at f 9;
      negative1 = word_at f 10;
      positive2 = word_at f 11;
      negative2 = word_at f 12;
      option = word_at f 13;
      rated = word_at f 14;
      homing = word_at f 15;
    }
