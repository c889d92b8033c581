-- What a C program is handed out for a tick, word for word: the words read back as the rules' answer, and so demand 3 speaks of them, at every
-- place of a list of calls from fresh words. `ReceivedFresh` (`Run.antt`) says of the same calls that what they hand out are the rules' replies.
-- Assumes nothing.
use Rattle.std.specs.Prelude.{ℕ, ◌≡◌, true, List, [], ◌∷◌, ◌++◌, length}
use Rattle.counts.specs.Fits.{fits}
use Rattle.patterns.specs.Patterns.{word_at}
use Rattle.ticks.specs.declared.Tick.{Tick}
use Rattle.rules.specs.Axis.{Nothing, Axis}
use Rattle.rules.specs.Tick.{tick_of}
use Rattle.demands.specs.Events.{Event, tick}
use Rattle.demands.specs.Replies.{axis_of}
use Rattle.demands.specs.Known.{known}
use Rattle.demands.specs.Demand.{TickPromise}
use Rattle.records.specs.Words.{answer_words}
use Rattle.records.specs.Back.{answer_of_words}
use Rattle.exports.specs.Calls.{FreshCall}
use Rattle.exports.specs.Run.{Run}

-- whatever the axis, the answer to a tick whose position fits 32 bits, as that of `tick_in` does, reads back from its words
abbrev pub AllAnswersReadBack : Type 0
AllAnswersReadBack =
    (a : Axis) (t : Tick) → fits 32 t.position ≡ true → answer_of_words (answer_words (tick_of a t).answer) ≡ (tick_of a t).answer

-- what the tick after the events `before` is handed out. Every call hands out one list: first those of `before`, then this tick's, then the
-- later ones
pub record ReceivedAt (before : List Event) (t : Tick) (out : List (List ℕ)) : Type 0 where
  pub earlier : List (List ℕ)
  pub number : ℕ
  pub words : List ℕ
  pub later : List (List ℕ)
  pub place : out ≡ earlier ++ (number ∷ words) ∷ later
  pub one_each : length earlier ≡ length before
  pub seven : length words ≡ 7
  -- the number that the call returns is the first word too
  pub returned : number ≡ word_at words 0
  -- read as an answer, the words are the rules' answer in every field
  pub answer : answer_of_words words ≡ (tick_of (axis_of before) t).answer
  -- so read, they keep what demand 3 promises of a tick at this place of the list: of the number, of the torque (word 1), and of bits 8 and 12
  -- of the statusword (word 4)
  pub promise : TickPromise (known before).settings (known before) t (answer_of_words words)
  -- where no settings are in force, the first word is 8 and the others are 0
  pub refused : (known before).settings ≡ Nothing → words ≡ 8 ∷ 0 ∷ 0 ∷ 0 ∷ 0 ∷ 0 ∷ 0 ∷ []

-- of every tick of the list
pub record TicksReceived (es : List Event) (out : List (List ℕ)) : Type 0 where
  pub each : (before : List Event) (t : Tick) (after : List Event) → es ≡ before ++ tick t ∷ after → ReceivedAt before t out

-- from fresh words demand 3 holds of the words themselves that every tick of the list is handed out
abbrev pub AllTicksReceived : Type 0
AllTicksReceived = (l m : List ℕ) (es : List Event) (out : List (List ℕ)) → FreshCall l → Run l es out m → TicksReceived es out
