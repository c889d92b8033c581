-- The edges of the narrow gear, as tables that the checker evaluates: each row a target and what the narrow gear answers. What the axis makes of
-- such targets stands in demands/specs/Examples.antt.
-- Assumes nothing.
use Rattle.std.specs.Prelude.{ℕ, ◌-◌, ◌^◌, List, [], ◌∷◌, map, ℤ, pos, Option}
use Rattle.counts.specs.Tests.{minus}
use Rattle.settings.specs.declared.Settings.{Settings}
use Rattle.gears.specs.Narrow.{narrow_of}

-- a gear, an offset and position limits; the other settings have no part in it
abbrev pub sheet : ℕ → ℕ → ℤ → ℤ → ℤ → Settings
sheet n d from low high =
    record {
      method = 35;
      fast = 1;
      slow = 1;
      offset = from;
      numerator = n;
      denominator = d;
      lower = low;
      upper = high;
      maximum = 0;
      positive1 = 0;
      negative1 = 0;
      positive2 = 0;
      negative2 = 0;
      option = 2;
      rated = 1;
      homing = 0;
    }

-- with limits that no 32-bit target is beyond
abbrev pub unlimited : ℕ → ℕ → ℤ → Settings
unlimited n d from = sheet n d from (minus (2 ^ 31)) (pos (2 ^ 31 - 1))

abbrev pub answers : Settings → List ℤ → List (Option ℤ)
answers s targets = map (narrow_of s) targets

-- products 2^31 − 1 and −2^31 fit, 2^31 and −2^31 − 1 do not: numerators and targets
abbrev pub products : List (ℕ × ℤ)
products = (1, pos (2 ^ 31 - 1)) ∷ (1, minus (2 ^ 31)) ∷ (2048, pos (2 ^ 20)) ∷ (3, minus 715827883) ∷ []
