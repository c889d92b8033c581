-- 02, (vi), "or takeover": what `is_takeover` means, and that no tick tells whether any other word came. So takeovers are the only words that the
-- theorem leaves out. Proved in `proofs/Takeovers.antt`.
-- Assumes nothing.
use Rattle.std.specs.Prelude.{ℕ, ◌≡◌, true, false, List, map}
use Rattle.words.specs.Decode.{settings_of}
use Rattle.reader.specs.Read.{empty_pending}
use Rattle.rules.specs.Axis.{Axis}
use Rattle.rules.specs.Word.{with_pending, word_of}
use Rattle.demands.specs.Events.{Event, tick}
use Rattle.demands.specs.Whole.{after_takeover}
use Rattle.independence.specs.Alike.{answers_from, ticks_in, is_takeover, NoTakeover}

-- a takeover puts the pending settings into force, idles homing and empties what is pending; all else stays
abbrev pub TakeoverLeaves : Type 0
TakeoverLeaves =
    (a : Axis) (w : ℕ) → is_takeover a w ≡ true → (word_of a w).axis ≡ after_takeover (settings_of a.pending.values) (with_pending a empty_pending)

-- any other word changes what is pending, at most
abbrev pub OtherLeaves : Type 0
OtherLeaves = (a : Axis) (w : ℕ) → is_takeover a w ≡ false → (word_of a w).axis ≡ with_pending a (word_of a w).axis.pending

-- so ticks with such words between them are answered as if these had not come
abbrev pub WordsUnseen : Type 0
WordsUnseen = (a : Axis) (es : List Event) → NoTakeover a es → answers_from a es ≡ answers_from a (map tick (ticks_in es))
