-- 02, (vi), "What homing can't know": "Gear, offset and stops change between rehearsals; homing itself must not."
-- An axis is any axis here, whether words and ticks lead to it or not, and its settings are any, acceptable or not. Gear, offset and stops are called
-- units: they make a count of a target's user units. Stops are position limits.
-- The theorems are `ticks-alike` and `answered-alike`, in `proofs/Alike.antt`.
-- Assumes nothing.
use Rattle.std.specs.Prelude.{ℕ, ◌≡◌, Bool, false, ◌&&◌, List, [], ◌∷◌, map, eqb}
use Rattle.std.proofs.Math.Option.{Option, none, some}
use Rattle.settings.specs.declared.Settings.{Settings}
use Rattle.settings.specs.Refusal.{verdict_number, Verdict}
use Rattle.reader.specs.Cases.{is_end}
use Rattle.homing.specs.Phase.{Phase, Idle, Running, Homed, Failed, homed_in, failed_in}
use Rattle.modes.specs.declared.Mode.TheVariants.{Position}
use Rattle.modes.specs.Modes.{is_mode}
use Rattle.commands.specs.Commands.{mode_of}
use Rattle.ticks.specs.declared.Tick.{Tick}
use Rattle.ticks.specs.Motion.{Motion}
use Rattle.answers.specs.declared.Answer.{Answer}
use Rattle.rules.specs.Axis.{Active, Nothing, Set, Axis}
use Rattle.rules.specs.Word.{word_of}
use Rattle.rules.specs.Tick.{tick_of}
use Rattle.demands.specs.Events.{Event, word, tick}
use Rattle.demands.specs.Replies.{Reply, said, answered, replies_from}

-- "whose sheets differ only in gear, offset and stops": equal in every field but numerator, denominator, offset, lower and upper
pub record EqualButUnits (s r : Settings) : Type 0 where
  pub method : s.method ≡ r.method
  pub fast : s.fast ≡ r.fast
  pub slow : s.slow ≡ r.slow
  pub maximum : s.maximum ≡ r.maximum
  pub positive1 : s.positive1 ≡ r.positive1
  pub negative1 : s.negative1 ≡ r.negative1
  pub positive2 : s.positive2 ≡ r.positive2
  pub negative2 : s.negative2 ≡ r.negative2
  pub option : s.option ≡ r.option
  pub rated : s.rated ≡ r.rated
  pub homing : s.homing ≡ r.homing

-- both axes have settings in force, and these are equal but for units
abbrev pub EqualInForce : Active → Active → Type 0
EqualInForce Nothing b = ⊥
EqualInForce (Set s) Nothing = ⊥
EqualInForce (Set s) (Set r) = EqualButUnits s r

-- "equal drive state, shown mode, alarm number, remembered inputs": what a takeover leaves as it was (01)
pub record EqualDrive (m n : Motion) : Type 0 where
  pub state : m.state ≡ n.state
  pub mode : m.mode ≡ n.mode
  pub alarm : m.alarm ≡ n.alarm
  pub control : m.control ≡ n.control
  pub switches : m.switches ≡ n.switches
  pub position : m.position ≡ n.position

-- the running leg by the number that homing holds, which tells that leg, those after it and whether a limit turns it (`legs/specs/Numbers.antt`); none
-- where no leg runs. For all axes the leg alone is not enough; for those that words and ticks lead to it is: `Leg.antt`
abbrev pub running_from : Phase → Option ℕ
running_from Idle = none
running_from (Running route) = some route
running_from Homed = none
running_from Failed = none

-- "homed, homing error" are equal too: all that is named, but for the running leg
pub record EqualButLeg (a b : Axis) : Type 0 where
  pub settings : EqualInForce a.active b.active
  pub drive : EqualDrive a.motion b.motion
  pub homed : homed_in a.motion.phase ≡ homed_in b.motion.phase
  pub error : failed_in a.motion.phase ≡ failed_in b.motion.phase

-- "and running leg". Of home and of what is pending nothing is asked
pub record Alike (a b : Axis) : Type 0 where
  pub others : EqualButLeg a b
  pub leg : running_from a.motion.phase ≡ running_from b.motion.phase

-- "ticks without position command"
abbrev pub NoPosition : List Tick → Type 0
NoPosition [] = Unit {0}
NoPosition (t ∷ ts) = (is_mode (mode_of t.command) Position ≡ false) × NoPosition ts

-- the answers to the ticks of a list, every field; a word's verdict is no answer
abbrev pub answers_among : List Reply → List Answer
answers_among [] = []
answers_among (said v ∷ rs) = answers_among rs
answers_among (answered a ∷ rs) = a ∷ answers_among rs

abbrev pub answers_from : Axis → List Event → List Answer
answers_from a es = answers_among (replies_from a es)

-- the request's sentence, of ticks alone
abbrev pub TicksAlike : Type 0
TicksAlike = (a b : Axis) (ts : List Tick) → Alike a b → NoPosition ts → answers_from a (map tick ts) ≡ answers_from b (map tick ts)

-- the ticks of a list of events, words aside
abbrev pub ticks_in : List Event → List Tick
ticks_in [] = []
ticks_in (word w ∷ es) = ticks_in es
ticks_in (tick t ∷ es) = t ∷ ticks_in es

-- a word takes settings over if it is an end word and is answered 0 (`Takeovers.antt`)
abbrev pub taken_over_by : ℕ → Verdict → Bool
taken_over_by w v = is_end w && eqb (verdict_number v) 0

abbrev pub is_takeover : Axis → ℕ → Bool
is_takeover a w = taken_over_by w (word_of a w).verdict

-- "or takeover": no word of the list takes over, each coming to the axis as the events before it left it
abbrev pub NoTakeover : Axis → List Event → Type 0
NoTakeover a [] = Unit {0}
NoTakeover a (word w ∷ es) = (is_takeover a w ≡ false) × NoTakeover (word_of a w).axis es
NoTakeover a (tick t ∷ es) = NoTakeover (tick_of a t).axis es

-- the same with any words on either side, wherever they fall, as long as none takes over
abbrev pub AnsweredAlike : Type 0
AnsweredAlike =
    (a b : Axis) (es fs : List Event) → Alike a b → ticks_in es ≡ ticks_in fs → NoPosition (ticks_in es) → NoTakeover a es → NoTakeover b fs
    → answers_from a es ≡ answers_from b fs

-- `TicksAlike` is its case of no words: with ticks alone, these are all of the list, and nothing is taken over
abbrev pub CaseOfNoWords : Type 0
CaseOfNoWords = (a : Axis) (ts : List Tick) → (ticks_in (map tick ts) ≡ ts) × NoTakeover a (map tick ts)
