-- The examples of `specs/Examples.antt`, which the checker evaluates.
-- Assumes nothing.
use Rattle.std.specs.Prelude.{◌≡◌, refl, true}
use Rattle.std.specs.Float.Ieee.{of_bits, sub, mul, div, of_int}
use Rattle.counts.specs.Wrap.{modulo, signed, wrapped}
use Rattle.counts.specs.Divide.{floor_div}
use Rattle.counts.specs.Fits.{fits}
use Rattle.counts.specs.Clamp.{clamped}
use Rattle.counts.specs.Tests.{all}
use Rattle.ranges.specs.Range.{method_ok}
use Rattle.gears.specs.Gear.{geared_of, in_reach}
use Rattle.checks.specs.Check.{limits_verdict, verdict_of, acceptable}
use Rattle.settings.specs.Ranges.{positions_fit, in_range}
use Rattle.words.specs.Word.{latest}
use Rattle.words.specs.Encode.{values_of, total, checksum_of, words_from, words_of}
use Rattle.words.specs.Decode.{position_from, settings_of}
use Rattle.kinds.specs.Fields.{option_with_homing_ok, field_ok}
use Rattle.writer.specs.Write.{write_verdict}
use Rattle.reader.specs.Read.{start_read, field_read, end_verdict, end_read, read_of}
use Rattle.control.specs.Control.{control_command_of}
use Rattle.drive.specs.Transitions.{next_state}
use Rattle.states.specs.Alarm.{least_set, alarm_number_of}
use Rattle.hybrid.specs.Hybrid.{quotient_of, size_of, negative, whole_part}
use Rattle.commands.specs.Commands.{with_bit31}
use Rattle.legs.specs.Events.{event_counts, limit_counts}
use Rattle.legs.specs.Routes.{row_of}
use Rattle.legs.specs.Numbers.{main_route, turn_route, skip_route, skips, start_route}
use Rattle.homing.specs.Steps as steps
use Rattle.torque.specs.Limits.{cap_of}
use Rattle.torque.specs.Torque.{torque_of}
use Rattle.speed.specs.Speed.{signed_of}
use Rattle.position.specs.Position.{count_of}
use Rattle.status.specs.Statusword.{statusword_of}
use Rattle.answers.specs.Answer.{answer_in, answered_in}
use Rattle.rules.specs.Word.{word_of}
use Rattle.rules.specs.Tick.{tick_of}
use Rattle.ticks.specs.After.{new_phase}
use Rattle.demands.specs.Takeover.{completed_by}
use Rattle.demands.specs.Sheet.{words_S, settings_S}
use Rattle.demands.specs.LongRails.{words_S_2, long_rails}
use Rattle.demands.specs.HomingTorque.{words_S_3, homing_torques}
use Rattle.demands.specs.Examples.{table, further, readings}

pub holds : (all table ≡ true) × (all further ≡ true) × (all long_rails ≡ true) × (all homing_torques ≡ true) × (all readings ≡ true)
unfolding table further long_rails homing_torques readings words_S words_S_2 words_S_3 settings_S modulo signed wrapped fits floor_div clamped method_ok positions_fit in_range geared_of in_reach limits_verdict verdict_of acceptable write_verdict values_of total checksum_of words_from words_of latest position_from settings_of option_with_homing_ok field_ok start_read field_read end_verdict end_read read_of control_command_of next_state least_set alarm_number_of quotient_of size_of negative whole_part of_bits sub mul div of_int event_counts limit_counts row_of main_route turn_route skip_route skips start_route steps.running_of steps.start_of signed_of cap_of torque_of count_of statusword_of answer_in answered_in word_of new_phase tick_of completed_by with_bit31
holds = (refl, refl, refl, refl, refl)
