-- 02, (vii): a run of an axis on a paper rail, and its result.
-- Assumes nothing.
use Rattle.std.specs.Prelude.{ℕ, zero, suc, ◌+◌, ◌-◌, Bool, true, false, cond, List, [], ◌∷◌, ℤ, pos, ◌+ℤ◌, Err, Ok}
use Rattle.std.proofs.Math.Option.{Option, none, some}
use Rattle.counts.specs.Wrap.{wrapped}
use Rattle.settings.specs.declared.Settings.{Settings}
use Rattle.settings.specs.declared.Refusal.{Refusal}
use Rattle.settings.specs.declared.Refusal.TheVariants.{RailUnfit}
use Rattle.settings.specs.Refusal.{number_of, Verdict}
use Rattle.checks.specs.Check.{verdict_of}
use Rattle.words.specs.Encode.{words_of}
use Rattle.legs.specs.Legs.{Leg}
use Rattle.homing.specs.Phase.{Phase, Idle, Running, Homed, Failed}
use Rattle.homing.specs.Moving.{running_leg}
use Rattle.commands.specs.declared.Command.TheVariants.{Homing}
use Rattle.torque.specs.declared.LimitSet.TheVariants.{Set1}
use Rattle.ticks.specs.declared.Tick.{Tick}
use Rattle.rules.specs.Axis.{Axis, fresh_axis}
use Rattle.rules.specs.Word.{word_of}
use Rattle.rules.specs.Tick.{tick_of}
use Rattle.carriage.specs.declared.Rail.{Rail}
use Rattle.carriage.specs.Rail.{rail_fits, switches_at, stride_of}
use Rattle.simulator.specs.declared.Stop.{Stop}
use Rattle.simulator.specs.declared.Stop.TheVariants as stop
use Rattle.simulator.specs.declared.Outcome.{Outcome}

-- a tick at a cell of the rail: mode 6 is commanded, the position is the cell's count, and there is no alarm. Torque request and limit set have
-- no part in homing; nor has standstill, once the drive is enabled.
abbrev pub tick_at : Rail → ℕ → ℤ → Tick
tick_at r control x =
    record {
      control = control;
      command = Homing (pos 0);
      position = wrapped x;
      switches = switches_at r x;
      still = false;
      set = Set1;
      alarm = 0;
    }

-- the axis after it
abbrev pub after : Rail → ℕ → ℤ → Axis → Axis
after r control x a = (tick_of a (tick_at r control x)).axis

-- the axis after some settings words
abbrev pub after_words : Axis → List ℕ → Axis
after_words a [] = a
after_words a (w ∷ ws) = after_words (word_of a w).axis ws

-- "a fresh axis" that took the sheet over: the sheet's words in layout 3, which holds every acceptable sheet
abbrev pub settled : Settings → Axis
settled s = after_words fresh_axis (words_of 3 s)

-- "brought to enabled in mode 6": out of Not ready by any tick, then shutdown, switch on, enable operation. The carriage stands at the start.
abbrev pub enabled : Rail → ℤ → Axis → Axis
enabled r x a = after r 0x000F x (after r 0x0007 x (after r 0x0006 x (after r 0x0000 x a)))

-- "its first tick, at that cell, is the start tick": bit 4 rises
abbrev pub started_from : Rail → ℤ → Axis → Axis
started_from r x a = after r 0x001F x (enabled r x a)

abbrev pub started : Rail → Settings → ℤ → Axis
started r s x = started_from r x (settled s)

abbrev pub phase_on : Axis → Phase
phase_on a = a.motion.phase

-- "the carriage first moves f or s cells, as the running leg is F or S, in that leg's direction without coasting": where no leg runs it stays
abbrev pub way_of : Rail → Option Leg → ℤ
way_of r none = pos 0
way_of r (some l) = stride_of r l

abbrev pub next_cell : Rail → Axis → ℤ → ℤ
next_cell r a x = x +ℤ way_of r (running_leg (phase_on a))

-- a later tick: the carriage moves, and the axis gets a tick there; bit 4 stays set
abbrev pub next_axis : Rail → Axis → ℤ → Axis
next_axis r a x = after r 0x001F (next_cell r a x) a

-- "The run stops at homed, homing error or the given number of ticks"
abbrev pub stopped : Phase → Bool
stopped Homed = true
stopped Failed = true
stopped Idle = false
stopped (Running route) = false

-- "which of the three stopped it, the number of ticks only if neither other did"
abbrev pub stop_of : Phase → Stop
stop_of Homed = stop.Homed
stop_of Failed = stop.Failed
stop_of Idle = stop.Ticks
stop_of (Running route) = stop.Ticks

-- a run that is not refused has the number 0
abbrev pub ran : ℕ → Stop → Outcome
ran ticks stop = record { number = 0; ticks = ticks; stop = stop }

abbrev pub one_more : Outcome → Outcome
one_more o = ran (o.ticks + 1) o.stop

-- the ticks after the start tick, at most n of them
abbrev pub ride : Rail → ℕ → Axis → ℤ → Outcome
ride r zero a x = ran 0 (stop_of (phase_on a))
ride r (suc n) a x = cond (stopped (phase_on a)) (ran 0 (stop_of (phase_on a))) (one_more (ride r n (next_axis r a x) (next_cell r a x)))

-- "the ticks run, the start tick included"
abbrev pub ridden : Rail → Settings → ℤ → ℕ → Outcome
ridden r s start n = one_more (ride r (n - 1) (started r s start) start)

-- a refused run has no ticks and no stop
abbrev pub refused_run : Refusal → Outcome
refused_run q = record { number = number_of q; ticks = 0; stop = stop.None }

-- a sheet is "refused with 3, 5 or 6 as by the writer"; "12, rail unfit, [...] tested before the sheet"
abbrev pub judged_by : Bool → Settings → Verdict
judged_by fits s = cond fits (verdict_of s) (Err RailUnfit)

abbrev pub judged : Rail → Settings → ℤ → ℕ → Verdict
judged r s start n = judged_by (rail_fits r start n) s

abbrev pub ran_under : Verdict → Rail → Settings → ℤ → ℕ → Outcome
ran_under (Err q) r s start n = refused_run q
ran_under (Ok tt) r s start n = ridden r s start n

unfoldable pub run_of : Rail → Settings → ℤ → ℕ → Outcome
run_of r s start n = ran_under (judged r s start n) r s start n
