-- The cases in which settings are refused, each as 01's table has it, and the order of their tests.
-- Assumes nothing.
use Rattle.std.specs.Prelude.{Bool, not, List, [], ◌∷◌, ◌≡◌}
use Rattle.settings.specs.declared.Settings.{Settings}
use Rattle.settings.specs.Ranges.{in_range}
use Rattle.settings.specs.Refusal.{verdict_number, Test, test, first_of}
use Rattle.gears.specs.Gear.{in_reach}
use Rattle.checks.specs.Check.{limits_apart, verdict_of}

-- 3: "data outside its field"
abbrev pub out_of_range : Settings → Bool
out_of_range s = not (in_range s)

-- 5: "lower stop not below upper stop"
abbrev pub limits_crossed : Settings → Bool
limits_crossed s = not (limits_apart s)

-- 6: "a stop, geared as a target is but without home, is beyond ±2^30 counts"
abbrev pub out_of_reach : Settings → Bool
out_of_reach s = not (in_reach s)

abbrev pub limit_tests : Settings → List Test
limit_tests s = test (limits_crossed s) 5 ∷ test (out_of_reach s) 6 ∷ []

abbrev pub tests_of : Settings → List Test
tests_of s = test (out_of_range s) 3 ∷ limit_tests s

abbrev pub Numbers : Type 0
Numbers = (s : Settings) → verdict_number (verdict_of s) ≡ first_of (tests_of s)
