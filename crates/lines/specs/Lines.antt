-- What a line says: its first word tells which line it is, and one with no word is blank.
-- Assumes nothing.
use Rattle.std.specs.Prelude.{ℕ, true, cond, List, [], ◌∷◌, take, codes, Result, Ok, Err}
use Rattle.scan.specs.Bytes.{index_of}
use Rattle.cursors.specs.Names.{choice_read}
use Rattle.cursors.specs.Place.{line_start, at_end}
use Rattle.cursors.specs.Reading.{Reading, ◌>>=◌, given, end_read}
use Rattle.cursors.specs.declared.Expected.TheVariants as expected
use Rattle.cursors.specs.declared.Trouble.{Trouble}
use Rattle.scanner.specs.Readings.{hexadecimal_read}
use Rattle.sheets.specs.Sheets.{settings_read, sheet_read, layout_read}
use Rattle.lines.specs.declared.Line.{Line}
use Rattle.lines.specs.declared.Line.TheVariants as line
use Rattle.lines.specs.Rails.{rail_read}
use Rattle.lines.specs.Runs.{trial_read}
use Rattle.lines.specs.Ticks.{tick_read}
use Rattle.lines.specs.Trouble.{column_told}

-- a line by the word that opens it, with what comes after it
abbrev pub openings : List (List ℕ × Reading Line)
openings =
    (codes "word", hexadecimal_read 8 >>= λ word. given (line.Word word))
    ∷ (codes "tick", tick_read >>= λ tick. given (line.Tick tick))
    ∷ (codes "sheet", sheet_read >>= λ writing. given (line.Sheet writing))
    ∷ (codes "layout", layout_read >>= λ writing. given (line.Layout writing))
    ∷ (codes "fresh", given line.Fresh)
    ∷ (codes "settings", settings_read true >>= λ settings. given (line.Settings settings))
    ∷ (codes "rail", rail_read >>= λ rail. given (line.Rail rail))
    ∷ (codes "run", trial_read >>= λ trial. given (line.Run trial))
    ∷ (codes "picture", trial_read >>= λ trial. given (line.Picture trial))
    ∷ []

unfoldable pub opened_read : Reading Line
opened_read = choice_read openings expected.Keyword

-- and there the line ends
unfoldable pub content_read : Reading Line
content_read = do
  line ← opened_read
  end ← end_read
  given line

-- a line that cannot be read tells where, and what was expected there
abbrev pub told : Result Line Trouble → Line
told (Ok l) = l
told (Err refused) = line.Unreadable (column_told refused)

unfoldable pub content_of : List ℕ → Line
content_of text =
    let start = line_start text in
    cond (at_end start) line.Blank (told (content_read start).0)

-- "From the first `#` on a line is comment."
unfoldable pub line_of : List ℕ → Line
line_of bs = content_of (take (index_of 35 bs) bs)
