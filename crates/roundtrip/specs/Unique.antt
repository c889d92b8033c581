-- Demand 2: "Every acceptable sheet has exactly one list of fifteen words", and it reads back. 02, (iv): "One list of words per sheet now means one
-- per sheet and each layout that holds it." Over the whole axis, with ticks between the words: `RoundTrip` and `CameByTheirWords`,
-- `demands/specs/Whole.antt`.
-- Assumes nothing.
use Rattle.std.specs.Prelude.{ℕ, ◌≤◌, ◌≡◌, true, false, ◌&&◌, List, []}
use Rattle.settings.specs.declared.Settings.{Settings}
use Rattle.settings.specs.Ranges.{positions_fit}
use Rattle.layouts.specs.Layout.{is_layout, carries_homing_torque, homing_is_maximum}
use Rattle.checks.specs.Check.{acceptable, sendable}
use Rattle.words.specs.Word.{latest}
use Rattle.words.specs.Encode.{words_of}
use Rattle.words.specs.Decode.{layout_of}
use Rattle.reader.specs.Pending.{Pending}
use Rattle.roundtrip.specs.ReadInto.{ReadInto}
use Rattle.roundtrip.specs.Stream.{EndsIn}

-- the words of settings in a layout that holds them, whatever was pending, are read into those settings, equal in every field
abbrev pub ReadsBack : Type 0
ReadsBack = (layout : ℕ) (s : Settings) → sendable layout s ≡ true → (p : Pending) → ReadInto p (words_of layout s) s

-- there is a start word among them
abbrev pub HasStart : List ℕ → Type 0
HasStart ws = latest ws ≡ [] → ⊥

-- words with a start word among them that are read into settings, whatever was pending: from the latest start word on they are those settings' words,
-- and no others, in the layout that this start word tells (it is its own data)
abbrev pub OneList : Type 0
OneList =
    (p : Pending) (ws : List ℕ) (s : Settings) → ReadInto p ws s → HasStart ws
    → (latest ws ≡ words_of (layout_of (latest ws)) s) × (sendable (layout_of (latest ws)) s ≡ true)

-- a history ends in the words of at most one sheet, in at most one layout
abbrev pub OneEnd : Type 0
OneEnd = (l m : ℕ) (s t : Settings) (ws : List ℕ) → EndsIn l s ws → EndsIn m t ws → (l ≡ m) × (s ≡ t)

-- which acceptable settings each layout holds: layout 3 all of them, layout 2 those whose homing torque is the maximum, layout 1 those of them whose
-- offset and stops fit 28 bits; and there is no other layout
pub record HeldBy (s : Settings) : Type 0 where
  pub layout_1 : sendable 1 s ≡ homing_is_maximum s && positions_fit 28 s
  pub layout_2 : sendable 2 s ≡ homing_is_maximum s
  pub layout_3 : sendable 3 s ≡ true
  pub no_other : (layout : ℕ) → is_layout layout ≡ false → sendable layout s ≡ false

abbrev pub LayoutsHold : Type 0
LayoutsHold = (s : Settings) → acceptable s ≡ true → HeldBy s

-- 02, (v): "Layouts 1 and 2 read as homing torque equal to the maximum", whatever was pending. No tick would tell it from any value above; the
-- writer's 11 does
abbrev pub OlderReadMaximum : Type 0
OlderReadMaximum =
    (p : Pending) (ws : List ℕ) (s : Settings) → ReadInto p ws s → HasStart ws → carries_homing_torque (layout_of (latest ws)) ≡ false → s.homing ≡ s.maximum

-- 02, (iv): "A layout 1 sheet keeps its meaning, and writing it in layout 2 and reading it loses nothing": the same settings are read, in every
-- field; so it is from each layout to each later one
abbrev pub Rewritten : Type 0
Rewritten =
    (l m : ℕ) (s : Settings) → sendable l s ≡ true → l ≤ m → is_layout m ≡ true → (p : Pending) → ReadInto p (words_of l s) s × ReadInto p (words_of m s) s
