-- The examples of `specs/Examples.antt`, which the checker evaluates.
-- Assumes nothing.
use Rattle.std.specs.Prelude.{◌≡◌, refl, true}
use Rattle.std.proofs.Common.{arith}
use Rattle.counts.specs.Wrap.{modulo, signed, wrapped}
use Rattle.counts.specs.Divide.{floor_div}
use Rattle.counts.specs.Clamp.{clamped}
use Rattle.counts.specs.Fits as counts
use Rattle.counts.specs.Tests.{all}
use Rattle.ranges.specs.Range.{method_ok}
use Rattle.settings.specs.Ranges.{in_range, positions_fit}
use Rattle.gears.specs.Gear.{geared_of, in_reach}
use Rattle.checks.specs.Check.{verdict_of, limits_verdict}
use Rattle.kinds.specs.Fields.{option_with_homing_ok, field_ok}
use Rattle.words.specs.Encode.{values_of, total, checksum_of, words_from, words_of}
use Rattle.words.specs.Decode.{position_from, settings_of}
use Rattle.reader.specs.Read.{start_read, field_read, end_verdict, end_read, read_of}
use Rattle.legs.specs.Events.{event_counts, limit_counts}
use Rattle.legs.specs.Routes.{row_of}
use Rattle.legs.specs.Numbers.{main_route, turn_route, skip_route, skips, start_route}
use Rattle.homing.specs.Steps as steps
use Rattle.control.specs.Control.{control_command_of}
use Rattle.drive.specs.Transitions.{next_state}
use Rattle.ticks.specs.After.{new_phase}
use Rattle.answers.specs.Answer.{answered_in}
use Rattle.rules.specs.Word.{word_of}
use Rattle.rules.specs.Tick.{tick_of}
use Rattle.carriage.specs.Rail.{sized, sizes_fit, ticks_fit, cam_fits, on_rail, rail_fits, switches_at, stride_of}
use Rattle.simulator.specs.Run.{run_of}
use Rattle.arrival.specs.Homes.{Roomy}
use Rattle.arrival.specs.Examples.{paper, in_time, others, needed, last, refusals}

pub roomy_paper : Roomy paper
roomy_paper = record { slower = omega arith; on_cam = omega arith; before_cam = omega arith; after_cam = omega arith }

pub holds : (all in_time ≡ true) × (all others ≡ true) × (all needed ≡ true) × (all last ≡ true) × (all refusals ≡ true)
unfolding run_of rail_fits sizes_fit sized ticks_fit cam_fits on_rail switches_at stride_of modulo signed wrapped floor_div clamped geared_of verdict_of limits_verdict in_range positions_fit counts.fits option_with_homing_ok values_of total checksum_of position_from settings_of field_ok start_read field_read end_verdict end_read read_of control_command_of next_state event_counts limit_counts row_of main_route turn_route skip_route skips start_route steps.running_of steps.start_of answered_in word_of new_phase tick_of in_reach method_ok words_from words_of
holds = (refl, refl, refl, refl, refl)
