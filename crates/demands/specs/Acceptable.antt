-- Settings that are in force are acceptable, after every list of settings words and ticks; so the guards of gear, speeds and torque caps
-- change nothing in any history, and torque, speed and position are those of 01's formulas with no guard in them.
-- Assumes nothing.
use Rattle.std.specs.Prelude.{ℕ, ◌+◌, ◌*◌, ◌^◌, ◌<◌, ◌≡◌, true, List}
use Rattle.counts.specs.Bit.{bit_of}
use Rattle.counts.specs.Wrap.{signed}
use Rattle.settings.specs.declared.Settings.{Settings}
use Rattle.checks.specs.Check.{acceptable}
use Rattle.words.specs.Word.{data_of}
use Rattle.words.specs.Decode.{position_from}
use Rattle.commands.specs.Commands.{whole_demand}
use Rattle.torque.specs.Torque.{plain_torque}
use Rattle.speed.specs.Speed.{plain_speed}
use Rattle.position.specs.Position.{plain_position}
use Rattle.ticks.specs.declared.Tick.{Tick}
use Rattle.ticks.specs.Motion.{Motion}
use Rattle.ticks.specs.Rules.{demand_in}
use Rattle.answers.specs.declared.Answer.{Answer}
use Rattle.answers.specs.Answer.{followed_in, torque_on}
use Rattle.rules.specs.Axis.{Set}
use Rattle.rules.specs.Tick.{tick_of}
use Rattle.demands.specs.Events.{Event}
use Rattle.demands.specs.Replies.{axis_of}

abbrev pub InForceAcceptable : Type 0
InForceAcceptable = (es : List Event) (s : Settings) → (axis_of es).active ≡ Set s → acceptable s ≡ true

-- an answer to a tick that leaves motion m, by the formulas with no guard
pub record Plain (s : Settings) (t : Tick) (m : Motion) (a : Answer) : Type 0 where
  pub torque : a.torque ≡ plain_torque s m.mode t.set (torque_on t m) (whole_demand (demand_in s t))
  pub speed : a.speed ≡ plain_speed s m.phase (bit_of t.control 8)
  pub position : a.position ≡ plain_position s m.home (followed_in t m) t.position

-- every tick that is not refused, after every list
abbrev pub PlainAnswers : Type 0
PlainAnswers =
    (es : List Event) (t : Tick) (s : Settings) → (axis_of es).active ≡ Set s
    → Plain s t (tick_of (axis_of es) t).axis.motion (tick_of (axis_of es) t).answer

-- "two's complement over 28 bits", and in layouts 2 and 3 "32-bit signed": what a word carries is below 2 ^ 28, and four bits are below 2 ^ 4, so that a
-- position is read with no guard
pub record PlainData : Type 0 where
  pub layout1 : (w top : ℕ) → position_from 1 (data_of w) top ≡ signed 28 (data_of w)
  pub layout2 : (w top : ℕ) → top < 2 ^ 4 → position_from 2 (data_of w) top ≡ signed 32 (data_of w + top * 2 ^ 28)
  pub layout3 : (w top : ℕ) → top < 2 ^ 4 → position_from 3 (data_of w) top ≡ signed 32 (data_of w + top * 2 ^ 28)
