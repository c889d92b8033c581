-- docs/LINES.md: "`sheet N` and the buffer's words after the call", and so for `layout`: what the writer leaves on a buffer that is lent to it.
-- Assumes nothing.
use Rattle.std.specs.Prelude.{ℕ, min, List, replicate}
use Rattle.printer.specs.Texts.{buffer_text}
use Rattle.settings.specs.Refusal.{verdict_number}
use Rattle.sheets.specs.declared.Writing.{Writing}
use Rattle.writer.specs.Write.{write_verdict, written}

-- "a buffer of LENGTH words (0 to 32) that each hold DEADBEEF"; 32 is a guard here, since a line that is read lends no more
abbrev pub lent_of : Writing → List ℕ
lent_of w = replicate (min w.length 32) 0xDEADBEEF

-- 02, (iv): the writer "is told the layout"
abbrev pub written_text : List ℕ → Writing → List ℕ
written_text name w = buffer_text name (verdict_number (write_verdict w.layout w.settings (lent_of w))) (written w.layout w.settings (lent_of w))
