-- What each write leaves: l are the words before it, m those after it. The words that are not its to write are kept as they are.
-- Assumes nothing.
use Rattle.std.specs.Prelude.{◌≡◌, ℕ, zero, suc, ◌+◌, cond, List, [], ◌∷◌, ◌++◌, take, drop, replicate, nat_lt, slice_set}
use Rattle.settings.specs.declared.Settings.{Settings}
use Rattle.words.specs.Decode.{settings_from}
use Rattle.reader.specs.Pending.{Pending}
use Rattle.reader.specs.Read.{empty_pending, started, kept}
use Rattle.ticks.specs.Motion.{Motion, idled}
use Rattle.rules.specs.Axis.{Set, fresh_axis}
use Rattle.rules.specs.Word.{with_pending}
use Rattle.rules.specs.Tick.{with_motion}
use Rattle.patterns.specs.Patterns.{word_at}
use Rattle.cells.specs.Lists.{cells_from}
use Rattle.cells.specs.Cells.{value_in, pending_in, motion_in, axis_in, motion_words, SettingsKept, PendingKept, AllButMotionKept, MotionKept}

pub record Cleared (m : List ℕ) : Type 0 where
  pub axis : axis_in m ≡ fresh_axis
  pub words : m ≡ replicate 39 0

-- other pending settings, and nothing else
pub record Pends (l : List ℕ) (p : Pending) (m : List ℕ) : Type 0 where
  pub axis : axis_in m ≡ with_pending (axis_in l) p
  pub settings : SettingsKept l m
  pub motion : MotionKept l m

-- nothing pending: the count alone is written
abbrev pub emptied : List ℕ → List ℕ
emptied l = slice_set l 23 0

pub record Emptied (l m : List ℕ) : Type 0 where
  pub pends : Pends l empty_pending m
  pub words : m ≡ emptied l

abbrev pub Begun : List ℕ → ℕ → List ℕ → Type 0
Begun l layout m = Pends l (started layout) m

-- one value more, where there is room for it
abbrev pub more : Pending → ℕ → Pending
more p x = cond (nat_lt p.count 15) (kept p p.count x) p

abbrev pub Appended : List ℕ → ℕ → List ℕ → Type 0
Appended l x m = Pends l (more (pending_in l) x) m

-- all words of motion but the phase
pub record InputsKept (l m : List ℕ) : Type 0 where
  pub before : take 3 (motion_words m) ≡ take 3 (motion_words l)
  pub after : drop 4 (motion_words m) ≡ drop 4 (motion_words l)

-- the words of the pending values of kinds 0 to 13 as they stand; all of them have come where an end word is due
abbrev pub first_values_in : List ℕ → List ℕ
first_values_in l = cells_from 24 14 l

-- and kind 14's, which layout 1 does not have
abbrev pub values_in : List ℕ → List ℕ
values_in l = first_values_in l ++ value_in l 14 ∷ []

-- the words of kinds 1 to k in force are the pending ones
abbrev pub copied : ℕ → List ℕ → List ℕ
copied zero l = l
copied (suc k) l = slice_set (copied k l) (9 + k) (word_at l (25 + k))

-- the settings of these values come into force, with those of s that layouts carry in their own ways
pub record TakenOver (l : List ℕ) (s : Settings) (m : List ℕ) : Type 0 where
  pub axis :
      axis_in m ≡ record { active = Set (settings_from s.offset s.lower s.upper s.option s.homing (first_values_in l)); pending = pending_in l; motion = idled (motion_in l) }
  pub pending : PendingKept l m
  pub motion : InputsKept l m

-- motion is a, and nothing else changes
pub record Moved (l : List ℕ) (a : Motion) (m : List ℕ) : Type 0 where
  pub axis : axis_in m ≡ with_motion (axis_in l) a
  pub kept : AllButMotionKept l m
