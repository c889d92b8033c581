-- Words that choose: what a word means by a table of names.
-- Assumes nothing.
use Rattle.std.specs.Prelude.{ℕ, suc, cond, List, [], ◌∷◌, map}
use Rattle.std.specs.Str.{is_utf8, bytes_eq}
use Rattle.cursors.specs.Place.{span_at, bytes_at, past}
use Rattle.cursors.specs.Reading.{Reading, refused}
use Rattle.cursors.specs.Trouble.{trouble_at}
use Rattle.cursors.specs.declared.Expected.{Expected}

-- a table has a row a name: the name, and what it means
module _ {A : Type 0} where
  -- what a word means by a table: what the first row with its name says, or `none` where no row has it
  abbrev pub meaning_of : List ℕ → List (List ℕ × A) → A → A
  meaning_of word [] none = none
  meaning_of word (row ∷ rows) none = cond (bytes_eq word row.0) row.1 (meaning_of word rows none)

  abbrev pub names : List (List ℕ × A) → List (List ℕ)
  names rows = map (λ row. row.0) rows

  abbrev pub meanings : List (List ℕ × A) → List A
  meanings rows = map (λ row. row.1) rows

-- the number of the first of the names that is the word, from 0; how many there are where none is
unfoldable pub which_of : List ℕ → List (List ℕ) → ℕ
which_of word [] = 0
which_of word (w ∷ ws) = cond (bytes_eq word w) 0 (suc (which_of word ws))

-- a word as text; empty where its bytes are none
abbrev pub name_of : List ℕ → List ℕ
name_of word = cond (is_utf8 word) word []

-- a word that chooses how to read on; `e` is expected where it is none of the table's
abbrev pub choice_read : {A : Type 0} → List (List ℕ × Reading A) → Expected → Reading A
choice_read rows e c = meaning_of (bytes_at c) rows (refused (trouble_at (span_at c).start e)) (past c)
