-- What each call promises of the words that it is lent: l before it, m after it. What they mean is `axis_in`, and the rules say what a
-- settings word and a tick do to it. The words that are not a call's to write are kept as they are.
-- Assumes nothing.
use Rattle.std.specs.Prelude.{ℕ, ◌≡◌, Bool, true, cond, List, ℤ, Err, Ok}
use Rattle.settings.specs.declared.Refusal.{Refusal}
use Rattle.settings.specs.Refusal.{Verdict}
use Rattle.reader.specs.Pending.{Reading, Complete}
use Rattle.reader.specs.Cases.{is_end}
use Rattle.counts.specs.Bit.{bit_of}
use Rattle.settings.specs.declared.Settings.{Settings}
use Rattle.homing.specs.Phase.{Phase, homed_in}
use Rattle.ticks.specs.declared.Tick.{Tick}
use Rattle.speed.specs.Speed.{speed_of}
use Rattle.ticks.specs.Motion.{Motion, phased, home_at}
use Rattle.ticks.specs.After.{phase_by, home_by}
use Rattle.answers.specs.declared.Answer.{Answer}
use Rattle.answers.specs.Answer.{answered_in}
use Rattle.rules.specs.Axis.{Nothing, Worded}
use Rattle.rules.specs.Word.{with_pending, taken, word_of}
use Rattle.rules.specs.Tick.{tick_of, gone}
use Rattle.cells.specs.Cells.{settings_in, active_in, motion_in, axis_in, SettingsKept, AllButMotionKept, MotionKept}
use Rattle.cells.specs.Writes.{Cleared, emptied, InputsKept, Moved}

-- a fresh axis; its words are zeros
abbrev pub FreshCall : List ℕ → Type 0
FreshCall m = Cleared m

-- a word that does x, and whether it is an end word
pub record Takes (l : List ℕ) (ends : Bool) (x : Worded) (m : List ℕ) (v : Verdict) : Type 0 where
  pub axis : axis_in m ≡ x.axis
  pub verdict : v ≡ x.verdict
  -- of motion's words the phase alone may change
  pub inputs : InputsKept l m
  -- and but for an end word that is accepted, which takes settings over, no word of the settings in force or of motion changes
  pub kept : (v ≡ Ok tt → ends ≡ true → ⊥) → SettingsKept l m × MotionKept l m
  -- a refused word writes the count of those pending, and nothing else
  pub refused : (r : Refusal) → v ≡ Err r → m ≡ emptied l

abbrev pub WordCall : List ℕ → ℕ → List ℕ → Verdict → Type 0
WordCall l w m v = Takes l (is_end w) (word_of (axis_in l) w) m v

pub record TickCall (l : List ℕ) (t : Tick) (m : List ℕ) (a : Answer) : Type 0 where
  pub axis : axis_in m ≡ (tick_of (axis_in l) t).axis
  pub answer : a ≡ (tick_of (axis_in l) t).answer
  -- no word of the settings in force or of what is pending changes
  pub kept : AllButMotionKept l m
  -- and none at all where the tick is refused
  pub refused : active_in l ≡ Nothing → m ≡ l

-- What the calls are made of, contracts of the code's own helpers.

-- a word of which the reader makes g
abbrev pub read_in : List ℕ → Reading → Worded
read_in l g = taken (with_pending (axis_in l) g.pending) g.outcome

-- an end word that completes settings; what is pending has been emptied before
abbrev pub completed_in : List ℕ → Settings → Worded
completed_in l s = taken (axis_in l) (Complete s)

pub record Completes (l : List ℕ) (s : Settings) (m : List ℕ) (v : Verdict) : Type 0 where
  pub axis : axis_in m ≡ (completed_in l s).axis
  pub verdict : v ≡ (completed_in l s).verdict
  pub inputs : InputsKept l m
  pub kept : (v ≡ Ok tt → ⊥) → m ≡ l

-- motion with the phase and home of a tick; on: homing is matched and the drive in Operation enabled
abbrev pub homing_by : Settings → Motion → Tick → Bool → Motion
homing_by s a t on = home_at (phased a (phase_by s a t on)) (home_by a t on (phase_by s a t on))

-- homing's part of a tick, which also has the speed v
pub record Homes (l : List ℕ) (t : Tick) (on : Bool) (m : List ℕ) (v : ℤ) : Type 0 where
  pub moved : Moved l (homing_by (settings_in l) (motion_in l) t on) m
  pub speed : v ≡ speed_of (settings_in l) (phase_by (settings_in l) (motion_in l) t on) (bit_of t.control 8)

-- motion in a phase, with home at the position where that is homed
abbrev pub arrived : Motion → Phase → ℤ → Motion
arrived a phase position = home_at (phased a phase) (cond (homed_in phase) position a.home)

-- a tick under the settings in force
pub record Runs (l : List ℕ) (t : Tick) (m : List ℕ) (a : Answer) : Type 0 where
  pub axis : axis_in m ≡ (gone (axis_in l) (answered_in (settings_in l) (motion_in l) t)).axis
  pub answer : a ≡ (answered_in (settings_in l) (motion_in l) t).answer
  pub kept : AllButMotionKept l m
