-- Words that are read one after the other from some pending settings, every one accepted, and the settings that the last one completes.
-- Assumes nothing.
use Rattle.std.specs.Prelude.{ℕ, ◌≡◌, List, [], ◌∷◌}
use Rattle.settings.specs.declared.Settings.{Settings}
use Rattle.reader.specs.Pending.{Pending, Complete}
use Rattle.reader.specs.Read.{read_of, outcome_number}

pub data ReadInto : Pending → List ℕ → Settings → Type 0 where
  last : {p : Pending} {w : ℕ} {s : Settings} → (read_of p w).outcome ≡ Complete s → ReadInto p (w ∷ []) s
  more : {p : Pending} {w : ℕ} {ws : List ℕ} {s : Settings}
      → outcome_number (read_of p w).outcome ≡ 0 → ReadInto (read_of p w).pending ws s → ReadInto p (w ∷ ws) s
