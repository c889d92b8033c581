-- 01, "The sheet": the range of each field, as a test.
-- Assumes nothing.
use Rattle.std.specs.Prelude.{ℕ, ◌-◌, ◌^◌, Bool, ◌||◌, eqb, leb}
use Rattle.counts.specs.Between.{between}

-- "method 23 to 30, 33, 34 or 35"; 02, (i): "17 and 18, and 1 and 2", and "Kind 1 admits them"
unfoldable pub method_ok : ℕ → Bool
method_ok method = between 1 2 method || between 17 18 method || between 23 30 method || between 33 35 method

-- "2 fast and 3 slow speed, 1 to 2^28−1"
abbrev pub speed_ok : ℕ → Bool
speed_ok speed = between 1 (2 ^ 28 - 1) speed

-- "5 gear numerator and 6 denominator, 1 to 2^20"
abbrev pub ratio_ok : ℕ → Bool
ratio_ok ratio = between 1 (2 ^ 20) ratio

-- "maximum torque, 0 to 3000", each limit of the two sets, and 02, (v): "the homing torque, 0 to 3000"
abbrev pub torque_ok : ℕ → Bool
torque_ok torque = leb torque 3000

-- "quick stop option, 2 or 6"
abbrev pub option_ok : ℕ → Bool
option_ok option = eqb option 2 || eqb option 6

-- "rated torque in millinewton metres, 1 to 2^24"
abbrev pub rated_ok : ℕ → Bool
rated_ok rated = between 1 (2 ^ 24) rated
