-- The first word that is not accepted: the place where it begins, or, where a word is missing, the end of the text.
-- Assumes nothing.
use Rattle.std.specs.Prelude.{ℕ}
use Rattle.cursors.specs.declared.Expected.{Expected}
use Rattle.cursors.specs.declared.Trouble.{Trouble}

abbrev pub trouble_at : ℕ → Expected → Trouble
trouble_at at e = record { at = at; expected = e }
