-- 01: "an unbroken run of due words from a start word on, none refused, …, closed by an end word that meets no refusal", in the reader's own
-- terms: which word is due, and what each word comes to. `completed_by` (`Takeover.antt`) names settings exactly where such a run has just closed
-- them, and agrees with the reader at every word. Refusal 7, the live drive, is left to `Known.antt`, `takes_over`.
-- Proved in `proofs/Unbroken.antt`.
-- Assumes nothing.
use Rattle.std.specs.Prelude.{ℕ, ◌≡◌, ◌↔◌, List, [], ◌∷◌, ◌++◌}
use Rattle.settings.specs.declared.Settings.{Settings}
use Rattle.words.specs.Word.{kind_of}
use Rattle.reader.specs.Pending.{Pending, Outcome, Refused, Stored, Complete}
use Rattle.reader.specs.Read.{due_kind, read_of}
use Rattle.roundtrip.specs.Stream.{pending_after}
use Rattle.rules.specs.Axis.{Active, Nothing, Set}
use Rattle.demands.specs.Takeover.{completed_by}

-- words read one after the other, each from what the one before left: each is due, none is refused, and the last one is an end word, which completes
-- settings
pub data DueInto : Pending → List ℕ → Settings → Type 0 where
  closed : {p : Pending} {w : ℕ} {s : Settings} → kind_of w ≡ due_kind p → kind_of w ≡ 15 → (read_of p w).outcome ≡ Complete s → DueInto p (w ∷ []) s
  due : {p : Pending} {w : ℕ} {ws : List ℕ} {s : Settings}
      → kind_of w ≡ due_kind p → (read_of p w).outcome ≡ Stored → DueInto (read_of p w).pending ws s → DueInto p (w ∷ ws) s

-- words that end in such a run, from a start word on. Any words come before it: "A start word always begins afresh, also halfway."
pub record UnbrokenRun (s : Settings) (ws : List ℕ) : Type 0 where
  pub before : List ℕ
  pub start : ℕ
  pub rest : List ℕ
  pub words : ws ≡ before ++ start ∷ rest
  pub is_start : kind_of start ≡ 0
  pub accepted : (read_of (pending_after before) start).outcome ≡ Stored
  pub all_due : DueInto (read_of (pending_after before) start).pending rest s

abbrev pub CompletedByUnbrokenRun : Type 0
CompletedByUnbrokenRun = (s : Settings) (ws : List ℕ) → (completed_by ws ≡ Set s) ↔ UnbrokenRun s ws

-- what a word completes, by what the reader makes of it
abbrev pub completed_in : Outcome → Active
completed_in (Refused r) = Nothing
completed_in Stored = Nothing
completed_in (Complete s) = Set s

-- at every word: what the words up to it complete is what the reader completes at it, from what the words before it left
abbrev pub AgreesWithReader : Type 0
AgreesWithReader = (ws : List ℕ) (w : ℕ) → completed_by (ws ++ w ∷ []) ≡ completed_in (read_of (pending_after ws) w).outcome
