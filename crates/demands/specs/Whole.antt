-- Demands 1 and 2 over lists of events: no tick after a refused word tells that it came; the words of acceptable settings, in each layout that holds
-- them, have them taken over, whatever ticks fall between; and settings are in force only where their own words have come.
-- Assumes nothing.
use Rattle.std.specs.Prelude.{ℕ, ◌≤◌, ◌≡◌, true, false, List, [], ◌∷◌, ◌++◌, map, length, take, Ok}
use Rattle.settings.specs.declared.Settings.{Settings}
use Rattle.settings.specs.Refusal.{verdict_number}
use Rattle.layouts.specs.Layout.{is_layout, carries_homing_torque}
use Rattle.checks.specs.Check.{sendable}
use Rattle.words.specs.Encode.{words_of}
use Rattle.writer.specs.Write.{needed, write_verdict, written}
use Rattle.reader.specs.Pending.{Pending}
use Rattle.reader.specs.Read.{empty_pending}
use Rattle.roundtrip.specs.Stream.{EndsIn}
use Rattle.states.specs.States.{live_of}
use Rattle.ticks.specs.Motion.{idled}
use Rattle.rules.specs.Axis.{Set, Axis, fresh_axis}
use Rattle.ticks.specs.declared.Tick.{Tick}
use Rattle.rules.specs.Word.{with_pending, word_of}
use Rattle.demands.specs.Events.{Event, word, tick}
use Rattle.demands.specs.Replies.{Reply, said, answered, axis_from, axis_of, replies_from}

-- no tick sees what is pending: with other pending settings any ticks are answered the same
abbrev pub PendingUnseen : Type 0
PendingUnseen = (a : Axis) (p : Pending) (ts : List Tick) → replies_from (with_pending a p) (map tick ts) ≡ replies_from a (map tick ts)

-- "A refused word … touches nothing else": any ticks after it are answered as if it had not come
abbrev pub RefusedUnseen : Type 0
RefusedUnseen =
    (a : Axis) (w : ℕ) (ts : List Tick) → (verdict_number (word_of a w).verdict ≡ 0 → ⊥)
    → replies_from (word_of a w).axis (map tick ts) ≡ replies_from a (map tick ts)

-- the words of a list of events, ticks aside
abbrev pub words_in : List Event → List ℕ
words_in [] = []
words_in (word w ∷ es) = w ∷ words_in es
words_in (tick t ∷ es) = words_in es

-- every word is answered 0
abbrev pub AllAccepted : List Reply → Type 0
AllAccepted [] = Unit {0}
AllAccepted (said v ∷ rs) = (verdict_number v ≡ 0) × AllAccepted rs
AllAccepted (answered a ∷ rs) = AllAccepted rs

-- "all its fields come into force together, homed and homing error are cleared, homing is idle"
abbrev pub after_takeover : Settings → Axis → Axis
after_takeover s a =
    record {
      active = Set s;
      pending = a.pending;
      motion = idled a.motion;
    }

-- all words are accepted, and the last, w, changes what a takeover changes, and that alone
pub record TakesOver (a : Axis) (s : Settings) (es : List Event) (w : ℕ) : Type 0 where
  pub accepted : AllAccepted (replies_from a (es ++ word w ∷ []))
  pub left : axis_from a (es ++ word w ∷ []) ≡ after_takeover s (with_pending (axis_from a es) empty_pending)

-- "with the drive not live", when the next word comes
abbrev pub NotLive : Axis → List Event → Type 0
NotLive a es = live_of (axis_from a es).motion.state ≡ false

-- "reading it with the drive not live yields that sheet": for any axis and any events whose words, ticks aside, are those of settings in a
-- layout that holds them, the last of them w, where the drive is not live when w comes
abbrev pub RoundTrip : Type 0
RoundTrip =
    (a : Axis) (layout : ℕ) (s : Settings) (es : List Event) (w : ℕ) → sendable layout s ≡ true → words_in es ++ w ∷ [] ≡ words_of layout s
    → NotLive a es → TakesOver a s es w

-- "the writer produces it": what the writer fills a buffer with, fed to any axis as above, has the settings taken over that it was given
abbrev pub WrittenTrip : Type 0
WrittenTrip =
    (a : Axis) (layout : ℕ) (s : Settings) (buffer : List ℕ) (es : List Event) (w : ℕ) → write_verdict layout s buffer ≡ Ok tt
    → words_in es ++ w ∷ [] ≡ take (needed layout) (written layout s buffer) → NotLive a es → TakesOver a s es w

-- 02, (iv): "writing it in layout 2 and reading it loses nothing": the writer accepts the settings of one layout in each later one, and what it fills the
-- buffer with has the same settings taken over, in every field
pub record Rewrites (a : Axis) (layout : ℕ) (s : Settings) (buffer : List ℕ) : Type 0 where
  pub accepted : write_verdict layout s buffer ≡ Ok tt
  pub taken_over :
      (es : List Event) (w : ℕ) → words_in es ++ w ∷ [] ≡ take (needed layout) (written layout s buffer) → NotLive a es → TakesOver a s es w

abbrev pub RewrittenTrip : Type 0
RewrittenTrip =
    (a : Axis) (l m : ℕ) (s : Settings) (buffer : List ℕ) → sendable l s ≡ true → l ≤ m → is_layout m ≡ true → needed m ≤ length buffer
    → Rewrites a m s buffer

-- a word of a list that took settings over: the drive was not live when it came, the words of those settings end at it, ticks aside, in a layout that
-- holds them, and then they were in force
pub record Came (s : Settings) (es : List Event) : Type 0 where
  pub before : List Event
  pub last : ℕ
  pub after : List Event
  pub cut : es ≡ before ++ word last ∷ after
  pub not_live : NotLive fresh_axis before
  pub took : (axis_of (before ++ word last ∷ [])).active ≡ Set s
  pub layout : ℕ
  pub words : EndsIn layout s (words_in before ++ last ∷ [])

-- "exactly one list of fifteen words", now "one per sheet and each layout that holds it", of the whole axis: after every list, refused words and
-- ticks included, settings that are in force came by their own words. No word ends the words of two sheets, or of one in two layouts (`OneEnd`,
-- `roundtrip/specs/Unique.antt`).
abbrev pub CameByTheirWords : Type 0
CameByTheirWords = (es : List Event) (s : Settings) → (axis_of es).active ≡ Set s → Came s es

-- 02, (v): "Layouts 1 and 2 read as homing torque equal to the maximum": so it is of settings that came by words of these. That the reader reads so is
-- `OlderReadMaximum`, `roundtrip/specs/Unique.antt`
abbrev pub CameWithMaximum : Type 0
CameWithMaximum = (es : List Event) (s : Settings) (c : Came s es) → carries_homing_torque c.layout ≡ false → s.homing ≡ s.maximum
