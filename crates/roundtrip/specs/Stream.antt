-- A stream of words from the first one on, refused ones included: what is pending after it, and how it can end.
-- Assumes nothing.
use Rattle.std.specs.Prelude.{ℕ, ◌≡◌, true, List, [], ◌∷◌, ◌++◌}
use Rattle.settings.specs.declared.Settings.{Settings}
use Rattle.checks.specs.Check.{sendable}
use Rattle.words.specs.Encode.{words_of}
use Rattle.reader.specs.Pending.{Pending}
use Rattle.reader.specs.Read.{empty_pending, read_of}

-- the pending settings after some words, each read from what the one before left
abbrev pub pending_from : Pending → List ℕ → Pending
pending_from p [] = p
pending_from p (w ∷ ws) = pending_from (read_of p w).pending ws

abbrev pub pending_after : List ℕ → Pending
pending_after ws = pending_from empty_pending ws

-- 01: "an unbroken run of due words from a start word on, none refused, … closed by an end word that meets no refusal": the words end in
-- the words of settings in a layout, in which these may be sent. Refusal 7, which goes by the drive, is left to the axis
pub record EndsIn (layout : ℕ) (s : Settings) (ws : List ℕ) : Type 0 where
  pub before : List ℕ
  pub words : ws ≡ before ++ words_of layout s
  pub sound : sendable layout s ≡ true
