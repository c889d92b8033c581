-- 01, "The sheet", and 02, (iv) and (v): what each kind of word may carry.
-- Assumes nothing.
use Rattle.std.specs.Prelude.{ℕ, ◌/◌, ◌%◌, ◌^◌, Bool, true, false, cond, ◌&&◌, List, [], ◌∷◌, ltb, get_or}
use Rattle.layouts.specs.Layout.{is_layout, carries_homing_torque}
use Rattle.ranges.specs.Range.{method_ok, speed_ok, ratio_ok, torque_ok, option_ok, rated_ok}

-- the low 28 bits of offset and stops: whatever they are, they are some number's
abbrev pub any_data : ℕ → Bool
any_data x = true

-- "positive limit in the low 14 bits, negative (as a magnitude) in the high 14, each 0 to 3000"
abbrev pub torque_limits_ok : ℕ → Bool
torque_limits_ok x = torque_ok (x % 2 ^ 14) && torque_ok (x / 2 ^ 14)

-- kind 12 of layout 3: "bits 8 to 19 hold the homing torque, 0 to 3000; bits 0 to 7 keep the option and bits 20 to 27 are zero"
unfoldable pub option_with_homing_ok : ℕ → Bool
option_with_homing_ok x = option_ok (x % 2 ^ 8) && torque_ok (x / 2 ^ 8 % 2 ^ 12) && ltb x (2 ^ 20)

abbrev pub option_data_ok : ℕ → ℕ → Bool
option_data_ok layout x = cond (carries_homing_torque layout) (option_with_homing_ok x) (option_ok x)

-- kind 14: "bits 12 to 27 are zero"
abbrev pub tops_ok : ℕ → Bool
tops_ok x = ltb x (2 ^ 12)

-- the test of kind k's data stands at place k, from 0 on; "start (data 1)", "Layout 2 has start data 2", "start data 3"
abbrev pub fields : ℕ → List (ℕ → Bool)
fields layout =
    is_layout
    ∷ method_ok
    ∷ speed_ok
    ∷ speed_ok
    ∷ any_data
    ∷ ratio_ok
    ∷ ratio_ok
    ∷ any_data
    ∷ any_data
    ∷ torque_ok
    ∷ torque_limits_ok
    ∷ torque_limits_ok
    ∷ option_data_ok layout
    ∷ rated_ok
    ∷ tops_ok
    ∷ []

unfoldable pub field_ok : ℕ → ℕ → ℕ → Bool
field_ok layout kind x = get_or (fields layout) kind (λ y. false) x
