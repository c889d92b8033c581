-- 01, "Refused words, ticks and buffers": "A number is given in its case and in no other", said of a whole axis.
-- Assumes nothing.
use Rattle.std.specs.Prelude.{ℕ, ◌≡◌, ◌&&◌, List, [], ◌∷◌, ◌++◌}
use Rattle.settings.specs.Refusal.{verdict_number, Test, test, first_of}
use Rattle.reader.specs.Cases.{is_end}
use Rattle.reader.specs.Cases as reader
use Rattle.states.specs.States.{live_of}
use Rattle.rules.specs.Axis.{Active, Nothing, Set, Axis}
use Rattle.ticks.specs.declared.Tick.{Tick}
use Rattle.rules.specs.Word.{word_of}
use Rattle.rules.specs.Tick.{tick_of}

-- 7: "end word while Operation enabled or Quick stop active"
abbrev pub live_test : Axis → ℕ → Test
live_test a w = test (is_end w && live_of a.motion.state) 7

-- "An end word is tested 1, 4, 5, 6, 7; other words 1, then 2 or 3"
abbrev pub tests_of : Axis → ℕ → List Test
tests_of a w = reader.tests_of a.pending w ++ live_test a w ∷ []

abbrev pub WordNumbers : Type 0
WordNumbers = (a : Axis) (w : ℕ) → verdict_number (word_of a w).verdict ≡ first_of (tests_of a w)

-- 8: "tick before any takeover"
abbrev pub tick_number : Active → ℕ
tick_number Nothing = 8
tick_number (Set s) = 0

abbrev pub TickNumbers : Type 0
TickNumbers = (a : Axis) (t : Tick) → (tick_of a t).answer.number ≡ tick_number a.active
