-- The cases in which a word is refused, each as 01's table and 02, (iv) and (v), have it, and the order of their tests; 1 is in `Read.antt`.
-- Assumes nothing.
use Rattle.std.specs.Prelude.{ℕ, Bool, not, ◌&&◌, List, [], ◌∷◌, ◌≡◌, eqb}
use Rattle.settings.specs.Refusal.{Test, test, first_of}
use Rattle.layouts.specs.Layout.{is_layout}
use Rattle.checks.specs.Cases as checks
use Rattle.words.specs.Word.{kind_of, data_of}
use Rattle.words.specs.Encode.{checksum_of}
use Rattle.words.specs.Decode.{settings_of}
use Rattle.reader.specs.Pending.{Pending}
use Rattle.kinds.specs.Fields.{field_ok}
use Rattle.reader.specs.Read.{layout_in, out_of_sequence, read_of, outcome_number}

abbrev pub is_start : ℕ → Bool
is_start w = eqb (kind_of w) 0

abbrev pub is_end : ℕ → Bool
is_end w = eqb (kind_of w) 15

-- 2: "start word's data is not 1", now "A layout nobody defined"
abbrev pub unknown_layout : ℕ → Bool
unknown_layout w = is_start w && not (is_layout (data_of w))

-- 3: "data outside its field", of a word between start and end
abbrev pub out_of_range : Pending → ℕ → Bool
out_of_range p w = not (is_start w) && not (is_end w) && not (field_ok (layout_in p) (kind_of w) (data_of w))

-- 4: "end word's data differs from the sum"
abbrev pub checksum_mismatch : Pending → ℕ → Bool
checksum_mismatch p w = is_end w && not (eqb (data_of w) (checksum_of p.values))

-- 5 and 6, of the settings that an end word closes
abbrev pub limits_crossed : Pending → ℕ → Bool
limits_crossed p w = is_end w && checks.limits_crossed (settings_of p.values)

abbrev pub out_of_reach : Pending → ℕ → Bool
out_of_reach p w = is_end w && checks.out_of_reach (settings_of p.values)

-- "An end word is tested 1, 4, 5, 6, 7; other words 1, then 2 or 3"; 7 is the axis's
abbrev pub tests_of : Pending → ℕ → List Test
tests_of p w =
    test (out_of_sequence p w) 1
    ∷ test (unknown_layout w) 2
    ∷ test (out_of_range p w) 3
    ∷ test (checksum_mismatch p w) 4
    ∷ test (limits_crossed p w) 5
    ∷ test (out_of_reach p w) 6
    ∷ []

abbrev pub Numbers : Type 0
Numbers = (p : Pending) (w : ℕ) → outcome_number (read_of p w).outcome ≡ first_of (tests_of p w)
