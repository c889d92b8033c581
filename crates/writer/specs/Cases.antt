-- The writer's own cases of refusal, tested before those of the settings.
-- Assumes nothing.
use Rattle.std.specs.Prelude.{ℕ, ◌≤◌, List, ◌∷◌, ◌≡◌, true, not, ◌↔◌, length, Ok}
use Rattle.settings.specs.declared.Settings.{Settings}
use Rattle.settings.specs.Refusal.{verdict_number, Test, test, first_of}
use Rattle.layouts.specs.Layout.{is_layout, long_value, homing_torque_lost}
use Rattle.checks.specs.Check.{sendable}
use Rattle.checks.specs.Cases as checks
use Rattle.writer.specs.Write.{needed, buffer_too_short, write_verdict}

-- "the writer 9, 3, 5, 6"; 2, "A layout nobody defined", "there before 9"; 10 "tested after 9 and before 3"; 11 "tested right after 10"
abbrev pub tests_of : ℕ → Settings → List ℕ → List Test
tests_of layout s buffer =
    test (not (is_layout layout)) 2
    ∷ test (buffer_too_short layout buffer) 9
    ∷ test (long_value layout s) 10
    ∷ test (homing_torque_lost layout s) 11
    ∷ checks.tests_of s

abbrev pub Numbers : Type 0
Numbers = (layout : ℕ) (s : Settings) (buffer : List ℕ) → verdict_number (write_verdict layout s buffer) ≡ first_of (tests_of layout s buffer)

-- into a buffer that is long enough the writer writes exactly the acceptable settings that the layout holds
abbrev pub AcceptsExactly : Type 0
AcceptsExactly =
    (layout : ℕ) (s : Settings) (buffer : List ℕ) → needed layout ≤ length buffer
    → (write_verdict layout s buffer ≡ Ok tt) ↔ (sendable layout s ≡ true)
