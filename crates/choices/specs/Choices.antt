-- The next word, read as one of a few.
-- Assumes nothing.
use Rattle.std.specs.Prelude.{ℕ, Bool, true, false, List, [], ◌∷◌, Option, Some, None, codes}
use Rattle.std.specs.Str.{bytes_eq}
use Rattle.cursors.specs.Names.{meaning_of}
use Rattle.cursors.specs.Place.{span_at, bytes_at, past}
use Rattle.cursors.specs.Reading.{Reading, judged, word_read}
use Rattle.cursors.specs.declared.Expected.TheVariants as expected
use Rattle.legs.specs.declared.events.Switches.{Switches}
use Rattle.torque.specs.declared.LimitSet.{LimitSet}
use Rattle.torque.specs.declared.LimitSet.TheVariants.{Set1, Set2}
use Rattle.choices.specs.Switches.{switches_shown}

unfoldable pub at_read : Reading (Unit {0})
at_read c = (judged (span_at c).start (bytes_eq (bytes_at c) (codes "at")) expected.At, past c)

-- "`STILL` is `still` or `moving`"
abbrev pub stills : List (List ℕ × Option Bool)
stills = (codes "still", Some true) ∷ (codes "moving", Some false) ∷ []

unfoldable pub standstill_read : Reading Bool
standstill_read = word_read (λ word. meaning_of word stills None) expected.Standstill

-- "`SET` is `set1` or `set2`"
abbrev pub sets : List (List ℕ × Option LimitSet)
sets = (codes "set1", Some Set1) ∷ (codes "set2", Some Set2) ∷ []

unfoldable pub set_read : Reading LimitSet
set_read = word_read (λ word. meaning_of word sets None) expected.Set

unfoldable pub switches_read : Reading Switches
switches_read = word_read switches_shown expected.Switches
