-- Lists of settings words and ticks as the examples write them, and what the replies to them say.
-- Assumes nothing.
use Rattle.std.specs.Prelude.{ℕ, Bool, true, false, ◌&&◌, List, [], ◌∷◌, ◌++◌, map, ℤ, pos, length, drop, replicate}
use Rattle.std.specs.Float.{binary32}
use Rattle.std.specs.Float.Ieee.{of_bits}
use Rattle.counts.specs.Tests.{same}
use Rattle.settings.specs.declared.Settings.{Settings}
use Rattle.settings.specs.Refusal.{verdict_number}
use Rattle.words.specs.Word.{same_words}
use Rattle.words.specs.Encode.{words_of}
use Rattle.writer.specs.Write.{write_verdict}
use Rattle.commands.specs.declared.Command.{Command}
use Rattle.commands.specs.declared.Command.TheVariants.{Hybrid, Homing, Position, Rest}
use Rattle.legs.specs.declared.events.Switches.{Switches}
use Rattle.legs.specs.Events.{all_off, switches_in}
use Rattle.torque.specs.declared.LimitSet.{LimitSet}
use Rattle.torque.specs.declared.LimitSet.TheVariants.{Set1}
use Rattle.rules.specs.Axis.{Active, Nothing, Set}
use Rattle.demands.specs.Events.{Event, word, tick}
use Rattle.demands.specs.Known.{known}
use Rattle.demands.specs.Replies.{Reply, said, answered, axis_of, replies}
use Rattle.demands.specs.Sheet.{words_S, S_with}

abbrev pub off : Switches
off = all_off

abbrev pub HOM : Switches
HOM = switches_in 4

abbrev pub Z : Switches
Z = switches_in 8

abbrev pub POT : Switches
POT = switches_in 1

abbrev pub NOT : Switches
NOT = switches_in 2

-- limit set and alarm word; control word, command, position, switches and standstill
abbrev pub given : LimitSet → ℕ → ℕ → Command → ℕ → Switches → Bool → Event
given set alarm control command position switches still =
    tick
    (record { control = control; command = command; position = pos position; switches = switches; still = still; set = set; alarm = alarm })

-- with limit set 1 and no alarm
abbrev pub inputs : ℕ → Command → ℕ → Switches → Bool → Event
inputs control command position switches still = given Set1 0 control command position switches still

-- at standstill, where every command is matched, and moving
abbrev pub still_tick : ℕ → Command → Event
still_tick control command = inputs control command 0 off true

abbrev pub moving_tick : ℕ → Command → Event
moving_tick control command = inputs control command 0 off false

-- at standstill, with an alarm word
abbrev pub alarmed : ℕ → ℕ → Event
alarmed alarm control = given Set1 alarm control Rest 0 off true

-- what is asked of an enabled axis at standstill
abbrev pub ask : Command → Event
ask command = still_tick 0x000F command

-- the same with a limit set chosen
abbrev pub ask_in : LimitSet → Command → Event
ask_in set command = given set 0 0x000F command 0 off true

-- a hybrid command by the bit patterns of KP, KD, pd, vd and T, where p and v are 0
abbrev pub hybrid : ℕ → ℕ → ℕ → ℕ → ℕ → Command
hybrid kp kd pd vd t =
    Hybrid
    (record {
      kp = of_bits binary32 kp;
      kd = of_bits binary32 kd;
      pd = of_bits binary32 pd;
      vd = of_bits binary32 vd;
      t = of_bits binary32 t;
      p = of_bits binary32 0;
      v = of_bits binary32 0;
    })

-- bit 4 rises at standstill at a position; the ticks after it
abbrev pub start : ℕ → Switches → Event
start position switches = inputs 0x001F (Homing (pos 0)) position switches true

abbrev pub at : ℕ → Switches → Event
at position switches = inputs 0x001F (Homing (pos 0)) position switches false

-- with bit 8 set, and with bit 4 clear
abbrev pub halted : ℕ → Switches → Event
halted position switches = inputs 0x011F (Homing (pos 0)) position switches false

abbrev pub released : ℕ → Switches → Event
released position switches = inputs 0x000F (Homing (pos 0)) position switches false

-- a position to follow
abbrev pub target : ℤ → Event
target z = ask (Position z (pos 0))

-- 01's route of method 23, homed at 103, and then target 0
abbrev pub rehearsed : List Event
rehearsed = start 100 off ∷ at 110 HOM ∷ at 112 off ∷ at 108 HOM ∷ at 103 off ∷ target (pos 0) ∷ []

-- the words of S, and of S with other data of one kind
abbrev pub S : List Event
S = map word words_S

abbrev pub with : ℕ → ℕ → List Event
with kind x = map word (S_with ((kind, x) ∷ []))

-- from Not ready to Switch on disabled, to Ready, and enabled by 000F
abbrev pub enabling : List Event
enabling = still_tick 0x0000 Rest ∷ still_tick 0x0006 Rest ∷ still_tick 0x000F Rest ∷ still_tick 0x000F Rest ∷ []

abbrev pub enabled : List Event
enabled = S ++ enabling

abbrev pub enabled_with : ℕ → ℕ → List Event
enabled_with kind x = with kind x ++ enabling

-- the replies to events after others
abbrev pub after : List Event → List Event → List Reply
after before es = drop (length before) (replies (before ++ es))

abbrev pub number : Reply → ℕ
number (said v) = verdict_number v
number (answered a) = a.number

abbrev pub torque : Reply → ℤ
torque (said v) = pos 0
torque (answered a) = a.torque

abbrev pub position : Reply → ℤ
position (said v) = pos 0
position (answered a) = a.position

abbrev pub speed : Reply → ℤ
speed (said v) = pos 0
speed (answered a) = a.speed

abbrev pub status : Reply → ℕ
status (said v) = 0
status (answered a) = a.status

abbrev pub alarm : Reply → ℕ
alarm (said v) = 0
alarm (answered a) = a.alarm

abbrev pub same_counts : List ℤ → List ℤ → Bool
same_counts [] [] = true
same_counts [] (y ∷ ys) = false
same_counts (x ∷ xs) [] = false
same_counts (x ∷ xs) (y ∷ ys) = same x y && same_counts xs ys

-- the settings in force, as words of layout 3, which holds all acceptable ones
abbrev pub in_force : Active → List ℕ
in_force Nothing = []
in_force (Set s) = words_of 3 s

-- after some words these settings are in force: by the axis, and by the list alone
abbrev pub brings : List ℕ → Settings → Bool
brings ws s = same_words (in_force (axis_of (map word ws)).active) (words_of 3 s) && same_words (in_force (known (map word ws)).settings) (words_of 3 s)

-- the numbers that some words are answered with
abbrev pub numbers : List ℕ → List ℕ
numbers ws = map number (replies (map word ws))

-- the number that the writer gives, on so many words
abbrev pub writes : ℕ → Settings → ℕ → ℕ
writes layout s room = verdict_number (write_verdict layout s (replicate room 0))
