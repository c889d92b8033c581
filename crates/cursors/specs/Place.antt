-- A place in a line's text, and the next word from it on.
-- Assumes nothing.
use Rattle.std.specs.Prelude.{ℕ, Bool, List, eqb, length}
use Rattle.cursors.specs.declared.Cursor.{Cursor}
use Rattle.tokens.specs.declared.Span.{Span}
use Rattle.tokens.specs.Words.{next_word, bytes_of}

pub record Place : Type 0 where
  pub text : List ℕ
  pub at : ℕ

-- where a cursor is
abbrev pub place_of : Cursor → Place
place_of c = record { text = c.text.now; at = c.at }

abbrev pub line_start : List ℕ → Place
line_start text = record { text = text; at = 0 }

-- the place of the next word, and its bytes
abbrev pub span_at : Place → Span
span_at c = next_word c.text c.at

abbrev pub bytes_at : Place → List ℕ
bytes_at c = bytes_of c.text (span_at c)

-- past the next word
abbrev pub past : Place → Place
past c = record { text = c.text; at = (span_at c).end }

-- no word is left
abbrev pub at_end : Place → Bool
at_end c = eqb (span_at c).start (length c.text)
