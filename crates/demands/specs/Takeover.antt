-- 01: "'Taken over' is read from the list too: an unbroken run of due words from a start word on, none refused, ticks aside, closed by an
-- end word that meets no refusal; the sheet's fields are what these words carry." Such a run is what has come from the latest start word on, the
-- words of the settings that they carry, in the layout that the start word tells. Refusals 1 to 6 are met here; 7, the live drive, in
-- `Known.antt`, `takes_over`.
-- Assumes nothing.
use Rattle.std.specs.Prelude.{ℕ, ◌≡◌, ◌↔◌, cond, ◌&&◌, List, map, take}
use Rattle.settings.specs.declared.Settings.{Settings}
use Rattle.layouts.specs.Layout.{size}
use Rattle.checks.specs.Check.{sendable}
use Rattle.words.specs.Word.{data_of, same_words, latest}
use Rattle.words.specs.Encode.{words_of}
use Rattle.words.specs.Decode.{layout_of, settings_of}
use Rattle.roundtrip.specs.Stream.{EndsIn}
use Rattle.rules.specs.Axis.{Active, Nothing, Set}

-- what the words of a run carry, the end word aside; a start word is its own data, the layout
abbrev pub carried : List ℕ → Settings
carried run = settings_of (map data_of (take (size (layout_of run)) run))

abbrev pub completed_by_run : List ℕ → Active
completed_by_run run =
    cond (same_words run (words_of (layout_of run) (carried run)) && sendable (layout_of run) (carried run)) (Set (carried run)) Nothing

-- the settings that words complete: from the latest start word on they are the words of settings that may be sent in its layout
unfoldable pub completed_by : List ℕ → Active
completed_by ws = completed_by_run (latest ws)

-- words that end in the words of settings, in some layout
pub record EndsInSome (s : Settings) (ws : List ℕ) : Type 0 where
  pub layout : ℕ
  pub ends : EndsIn layout s ws

-- and so settings are completed exactly where the words end in theirs
abbrev pub CompletedExactly : Type 0
CompletedExactly = (s : Settings) (ws : List ℕ) → (completed_by ws ≡ Set s) ↔ EndsInSome s ws
