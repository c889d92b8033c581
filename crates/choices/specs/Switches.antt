-- "one word of four characters, POT, NOT, HOM and Z in this order: `P`, `N`, `H`, `Z`, or `-` where off"
-- Assumes nothing.
use Rattle.std.specs.Prelude.{ℕ, Bool, cond, ◌&&◌, ◌||◌, List, eqb, length, get_or, Option, Some, None}
use Rattle.legs.specs.declared.events.Switches.{Switches}

-- a switch's byte is its letter or `-`
abbrev pub switch_ok : ℕ → ℕ → Bool
switch_ok b letter = eqb b letter || eqb b 45

-- whether it is on
abbrev pub switch_shown : ℕ → ℕ → Option Bool
switch_shown b letter = cond (switch_ok b letter) (Some (eqb b letter)) None

-- P, N, H, Z
abbrev pub four_ok : List ℕ → Bool
four_ok bs = switch_ok (get_or bs 0 0) 80 && switch_ok (get_or bs 1 0) 78 && switch_ok (get_or bs 2 0) 72 && switch_ok (get_or bs 3 0) 90

abbrev pub four_of : List ℕ → Switches
four_of bs =
    record { positive = eqb (get_or bs 0 0) 80; negative = eqb (get_or bs 1 0) 78; home = eqb (get_or bs 2 0) 72; index = eqb (get_or bs 3 0) 90 }

abbrev pub switches_shown : List ℕ → Option Switches
switches_shown bs = cond (eqb (length bs) 4 && four_ok bs) (Some (four_of bs)) None
