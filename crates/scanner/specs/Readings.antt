-- The next word, read as a number or a float.
-- Assumes nothing.
use Rattle.std.specs.Prelude.{ℕ, ◌^◌, ℤ}
use Rattle.std.specs.Float.Ieee as Ieee
use Rattle.cursors.specs.Reading.{Reading, word_read}
use Rattle.cursors.specs.declared.Expected.TheVariants as expected
use Rattle.floats.specs.Literal.{spelled_float}
use Rattle.numerals.specs.Signs.{signed_whole}
use Rattle.numerals.specs.Limits.{unsigned32_of, length_of}
use Rattle.spelling.specs.Spelling.{spelled_of}

-- "1 to 4 and 1 to 8 hexadecimal digits of either case"
unfoldable pub hexadecimal_read : ℕ → Reading ℕ
hexadecimal_read most = word_read (spelled_of 16 most) expected.Digits

-- "1 to 10 decimal digits with no sign, below 2^32"
unfoldable pub unsigned_read : Reading ℕ
unsigned_read = word_read unsigned32_of expected.Whole

-- "LENGTH words (0 to 32)"
unfoldable pub length_read : Reading ℕ
length_read = word_read length_of expected.Whole

-- "an optional `-` and 1 to 10 decimal digits, within 16 or 32 bits signed"
unfoldable pub whole_read : ℕ → Reading ℤ
whole_read half = word_read (signed_whole half) expected.Whole

-- "I16", "I32"
abbrev pub whole16_read : Reading ℤ
whole16_read = whole_read (2 ^ 15)

abbrev pub whole32_read : Reading ℤ
whole32_read = whole_read (2 ^ 31)

-- "`x` and eight hexadecimal digits [...] or a decimal"
unfoldable pub float_read : Reading Ieee.Float
float_read = word_read spelled_float expected.Float
