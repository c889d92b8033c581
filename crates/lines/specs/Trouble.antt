-- "COLUMN, in bytes from 1, is where the first word stands that is not accepted, or, where a word is missing, one past the last byte before the
-- comment."
-- Assumes nothing.
use Rattle.std.specs.Prelude.{ℕ, ◌+◌, min}
use Rattle.cursors.specs.declared.Trouble as cursors
use Rattle.lines.specs.declared.Trouble.{Trouble}

-- "in bytes from 1"; at most 256, a guard, since a line has at most 255 bytes
abbrev pub column_of : ℕ → ℕ
column_of at = min at 255 + 1

abbrev pub column_told : cursors.Trouble → Trouble
column_told refused = record { column = column_of refused.at; expected = refused.expected }
