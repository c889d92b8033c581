-- 01, "What a tick hands out".
-- Assumes nothing.
use Rattle.std.specs.Prelude.{Bool, ◌&&◌, ℤ, pos, Option, is_some}
use Rattle.counts.specs.Bit.{bit_of}
use Rattle.settings.specs.declared.Settings.{Settings}
use Rattle.settings.specs.declared.Refusal.{Refusal}
use Rattle.settings.specs.Refusal.{number_of}
use Rattle.states.specs.States.{live_of}
use Rattle.modes.specs.Modes.{mode_number}
use Rattle.commands.specs.Commands.{whole_demand}
use Rattle.torque.specs.Torque.{torque_of}
use Rattle.position.specs.Position.{position_of, clamped_of}
use Rattle.homing.specs.Phase.{homed_in}
use Rattle.speed.specs.Speed.{speed_of}
use Rattle.status.specs.Statusword.{Flags, flags_in, limit_active, statusword_of}
use Rattle.ticks.specs.declared.Tick.{Tick}
use Rattle.ticks.specs.Motion.{Motion}
use Rattle.ticks.specs.Rules.{matched_in, demand_in}
use Rattle.ticks.specs.After.{target_of, motion_after}
use Rattle.answers.specs.declared.Answer.{Answer}

-- "number, torque and all other answer fields 0"
abbrev pub refused_answer : Refusal → Answer
refused_answer r = record { number = number_of r; torque = pos 0; speed = pos 0; position = pos 0; status = 0; mode = pos 0; alarm = 0 }

abbrev pub is_following : Option ℤ → Bool
is_following f = is_some f

-- what a tick follows, by the motion that it leaves
abbrev pub followed_in : Tick → Motion → Option ℤ
followed_in t a = target_of t.command (matched_in t a.mode) a.state (homed_in a.phase)

abbrev pub flags_of : Settings → Tick → Motion → Flags
flags_of s t a = flags_in a.phase (is_following (followed_in t a)) (limit_active t.switches.positive t.switches.negative (clamped_of s (followed_in t a)))

-- in Operation enabled or Quick stop active with a matched command
abbrev pub torque_on : Tick → Motion → Bool
torque_on t a = live_of a.state && matched_in t a.mode

-- the answer of a tick that leaves motion a, with a torque and a speed; and with those of the rules
abbrev pub answer_by : Settings → Tick → Motion → ℤ → ℤ → Answer
answer_by s t a torque speed =
    record {
      number = 0;
      torque = torque;
      speed = speed;
      position = position_of s a.home (followed_in t a) t.position;
      status = statusword_of a.state a.mode (flags_of s t a);
      mode = mode_number a.mode;
      alarm = a.alarm;
    }

unfoldable pub answer_in : Settings → Tick → Motion → Answer
answer_in s t a =
    answer_by s t a (torque_of s a.mode t.set (torque_on t a) (whole_demand (demand_in s t))) (speed_of s a.phase (bit_of t.control 8))

-- a tick under settings: what it leaves, and its answer
pub record Answered : Type 0 where
  pub motion : Motion
  pub answer : Answer

unfoldable pub answered_in : Settings → Motion → Tick → Answered
answered_in s a t =
    record {
      motion = motion_after s a t;
      answer = answer_in s t (motion_after s a t);
    }
