-- 01, "The sheet", and 02, (iv) and (v): the words of settings in a layout.
-- Data is fifteen values in every layout, those of kinds 0 to 14; one that a layout does not send is 0, and so adds nothing to the sum.
-- Assumes nothing.
use Rattle.std.specs.Prelude.{ℕ, ◌+◌, ◌*◌, ◌/◌, ◌%◌, ◌^◌, ◌<◌, cond, List, [], ◌∷◌, ◌++◌, ℤ, get_or, take}
use Rattle.counts.specs.Wrap.{modulo}
use Rattle.settings.specs.declared.Settings.{Settings}
use Rattle.layouts.specs.Layout.{width, size, carries_homing_torque}
use Rattle.words.specs.Word.{packed}

-- a limit set in one word: positive limit in the low 14 bits, negative in the high 14
abbrev pub limit_set : ℕ → ℕ → ℕ
limit_set positive negative = negative * 2 ^ 14 + positive

-- of offset and stops, a word of their own has the low 28 bits; above these are "the top four bits" in layouts 2 and 3, and none in layout 1
abbrev pub low_of : ℤ → ℕ
low_of z = modulo 28 z

abbrev pub top_of : ℕ → ℤ → ℕ
top_of layout z = modulo (width layout) z / 2 ^ 28

-- kind 14: "bits 0 to 3, 4 to 7 and 8 to 11 carry the top four bits of offset, lower and upper stop"
abbrev pub tops_of : ℕ → Settings → ℕ
tops_of layout s = top_of layout s.offset + top_of layout s.lower * 2 ^ 4 + top_of layout s.upper * 2 ^ 8

-- kind 12: the option; in layout 3 also "bits 8 to 19 hold the homing torque"
abbrev pub option_data : ℕ → Settings → ℕ
option_data layout s = cond (carries_homing_torque layout) (s.homing * 2 ^ 8 + s.option) s.option

-- the data of kinds 0 to 14
unfoldable pub values_of : ℕ → Settings → List ℕ
values_of layout s =
    layout
    ∷ s.method
    ∷ s.fast
    ∷ s.slow
    ∷ low_of s.offset
    ∷ s.numerator
    ∷ s.denominator
    ∷ low_of s.lower
    ∷ low_of s.upper
    ∷ s.maximum
    ∷ limit_set s.positive1 s.negative1
    ∷ limit_set s.positive2 s.negative2
    ∷ option_data layout s
    ∷ s.rated
    ∷ tops_of layout s
    ∷ []

-- each fits a word's data
abbrev pub below : List ℕ → Type 0
below d = (i : ℕ) → get_or d i 0 < 2 ^ 28

unfoldable pub total : List ℕ → ℕ
total [] = 0
total (x ∷ xs) = x + total xs

-- "The end's data is the sum of the fourteen earlier data fields, modulo 2^28"; 02, (iv): "The sum includes kind 14"
unfoldable pub checksum_of : List ℕ → ℕ
checksum_of d = total d % 2 ^ 28

-- data as words of rising kinds
unfoldable pub words_from : ℕ → List ℕ → List ℕ
words_from kind [] = []
words_from kind (x ∷ xs) = packed kind x ∷ words_from (kind + 1) xs

-- the words of some data, and the end word
abbrev pub sealed : List ℕ → List ℕ
sealed d = words_from 0 d ++ (packed 15 (checksum_of d) ∷ [])

-- the values that a layout sends
abbrev pub sent : ℕ → Settings → List ℕ
sent layout s = take (size layout) (values_of layout s)

unfoldable pub words_of : ℕ → Settings → List ℕ
words_of layout s = sealed (sent layout s)
