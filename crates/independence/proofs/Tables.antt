-- The examples of `specs/Examples.antt`, which the checker evaluates.
-- Assumes nothing.
use Rattle.std.specs.Prelude.{ℕ, ◌≡◌, refl, true, ℤ}
use Rattle.std.specs.Float.Ieee.{of_bits, sub, mul, div, of_int}
use Rattle.counts.specs.Wrap.{modulo, signed, wrapped}
use Rattle.counts.specs.Divide.{floor_div}
use Rattle.counts.specs.Clamp.{clamped}
use Rattle.counts.specs.Tests.{all}
use Rattle.ranges.specs.Range.{method_ok}
use Rattle.gears.specs.Gear.{geared_of, in_reach}
use Rattle.checks.specs.Check.{limits_verdict}
use Rattle.kinds.specs.Fields.{field_ok}
use Rattle.words.specs.Encode.{total, checksum_of, words_from}
use Rattle.words.specs.Decode.{position_from, settings_of}
use Rattle.reader.specs.Pending.{Pending}
use Rattle.reader.specs.Read.{start_read, field_read, end_verdict, end_read, read_of}
use Rattle.legs.specs.Events.{event_counts, limit_counts}
use Rattle.legs.specs.Routes.{row_of}
use Rattle.legs.specs.Numbers.{main_route, turn_route, skips, start_route}
use Rattle.homing.specs.Steps as steps
use Rattle.homing.specs.Phase.{Running}
use Rattle.homing.specs.Moving.{running_leg}
use Rattle.hybrid.specs.Hybrid.{quotient_of, size_of, negative, whole_part}
use Rattle.control.specs.Control.{control_command_of}
use Rattle.drive.specs.Transitions.{next_state}
use Rattle.position.specs.Position.{count_of}
use Rattle.torque.specs.Limits.{cap_of}
use Rattle.torque.specs.Torque.{torque_of}
use Rattle.status.specs.Statusword.{statusword_of}
use Rattle.speed.specs.Speed.{signed_of}
use Rattle.ticks.specs.After.{new_phase}
use Rattle.ticks.specs.Motion.{Motion, home_at}
use Rattle.answers.specs.Answer.{answer_in, answered_in}
use Rattle.rules.specs.Word.{word_of}
use Rattle.rules.specs.Tick.{tick_of}
use Rattle.rules.specs.Axis.{Set}
use Rattle.demands.specs.Sheet.{words_S, settings_S}
use Rattle.independence.specs.Alike.{Alike}
use Rattle.independence.specs.Examples.{with_units, running, axis, one, other, odd, alike, alone, unturned, differing}

-- whatever the motion is, units, home and what is pending leave unchanged all that the theorem asks for
pub any_units : (m : Motion) (offset lower upper : ℤ) (numerator denominator : ℕ) (pending : Pending) (home : ℤ)
    → Alike (one m) (axis (Set (with_units offset lower upper numerator denominator)) pending (home_at m home))
unfolding words_S settings_S
any_units m offset lower upper numerator denominator pending home =
    record {
      others =
          record {
            settings =
                record {
                  method = refl;
                  fast = refl;
                  slow = refl;
                  maximum = refl;
                  positive1 = refl;
                  negative1 = refl;
                  positive2 = refl;
                  negative2 = refl;
                  option = refl;
                  rated = refl;
                  homing = refl;
                };
            drive =
                record {
                  state = refl;
                  mode = refl;
                  alarm = refl;
                  control = refl;
                  switches = refl;
                  position = refl;
                };
            homed = refl;
            error = refl;
          };
      leg = refl;
    }

pub pairs_alike : (m : Motion) → Alike (one m) (other m) × Alike (one m) (odd m)
pairs_alike m = (any_units m _ _ _ _ _ _ _, any_units m _ _ _ _ _ _ _)

pub same_leg : (running_leg running.phase ≡ running_leg (Running alone)) × (running_leg running.phase ≡ running_leg (Running unturned))
unfolding row_of main_route
same_leg = (refl, refl)

pub holds : (all alike ≡ true) × (all differing ≡ true)
unfolding alike differing words_S settings_S modulo signed wrapped floor_div clamped geared_of limits_verdict total checksum_of position_from settings_of field_ok start_read field_read end_verdict end_read read_of control_command_of next_state quotient_of size_of negative whole_part of_bits sub mul div of_int event_counts limit_counts row_of main_route turn_route skips start_route steps.running_of steps.start_of signed_of cap_of torque_of count_of statusword_of answer_in answered_in word_of new_phase tick_of in_reach method_ok words_from
holds = (refl, refl)
