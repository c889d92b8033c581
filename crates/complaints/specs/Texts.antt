-- Answers to a line that cannot be read, as docs/LINES.md has them.
-- Assumes nothing.
use Rattle.std.specs.Prelude.{ℕ, List, [], ◌∷◌, ◌++◌}
use Rattle.cursors.specs.declared.Expected.{Expected}
use Rattle.cursors.specs.declared.Expected.TheVariants.{Keyword, Digits, Whole, Float, Command, At, Switches, Standstill, Set, End}
use Rattle.lines.specs.declared.Trouble.{Trouble}
use Rattle.numerals.specs.Writing.{decimal}
use Rattle.tokens.specs.Ascii.{ascii}

-- a first word that no line has: the lines of the base are named, and no later one, since the text of its answers never changes
abbrev pub expected_text : Expected → List ℕ
expected_text Keyword = ascii " expected word, tick, sheet or fresh\n"
expected_text Digits = ascii " expected hexadecimal digits\n"
expected_text Whole = ascii " expected a whole number\n"
expected_text Float = ascii " expected a float\n"
expected_text Command = ascii " expected a command\n"
expected_text At = ascii " expected at\n"
expected_text Switches = ascii " expected switches\n"
expected_text Standstill = ascii " expected still or moving\n"
expected_text Set = ascii " expected set1 or set2\n"
expected_text End = ascii " expected end of line\n"

abbrev pub line_and_column_text : ℕ → ℕ → List ℕ
line_and_column_text line column = (ascii "unreadable " ++ decimal line) ++ ((32 ∷ []) ++ decimal column)

-- "unreadable LINE COLUMN expected WHAT"
abbrev pub unreadable_text : ℕ → Trouble → List ℕ
unreadable_text line t = line_and_column_text line t.column ++ expected_text t.expected

-- "unreadable LINE 256 line too long"
abbrev pub long_text : ℕ → List ℕ
long_text line = line_and_column_text line 256 ++ ascii " line too long\n"
