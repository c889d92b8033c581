-- What is pending (01: the unfinished sheet), and what a settings word comes to.
-- Assumes nothing.
use Rattle.std.specs.Prelude.{ℕ, List}
use Rattle.settings.specs.declared.Settings.{Settings}
use Rattle.settings.specs.declared.Refusal.{Refusal}

-- the words that have come from the last start word on: how many, and the data of kinds 0 to 14, 0 where none has come yet
pub record Pending : Type 0 where
  pub count : ℕ
  pub values : List ℕ

-- what a word came to: its data is pending now, or it closed these settings; whether they become active is the axis's to say
pub data Outcome : Type 0 where
  Refused : Refusal → Outcome
  Stored : Outcome
  Complete : Settings → Outcome

-- what a word came to, and what is pending after it
pub record Reading : Type 0 where
  pub outcome : Outcome
  pub pending : Pending
