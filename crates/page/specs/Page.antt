-- Text on a page: it goes behind what is written, and is cut off where the page ends.
-- Assumes nothing.
use Rattle.std.specs.Prelude.{ℕ, ◌≤◌, List, [], ◌++◌, ◌≡◌, length, take, drop}
use Rattle.page.specs.Written.{Written}
use Rattle.page.specs.declared.Page.{Page}

-- what a page shows
abbrev pub seen : Page → Written
seen page = record { text = take page.end page.bytes.now; room = drop page.end page.bytes.now; loan = page.bytes.ghost_name }

-- bytes with nothing written on them
abbrev pub blank : List ℕ → ℕ → Written
blank room loan = record { text = []; room = room; loan = loan }

-- bytes that are written up to a place
abbrev pub written_to : ℕ → List ℕ → ℕ → Written
written_to at bytes loan = record { text = take at bytes; room = drop at bytes; loan = loan }

-- the page after `text` was printed on it: as much of it as there is room for; behind it the page is as it was
unfoldable pub printed : Written → List ℕ → Written
printed page text = record { text = page.text ++ take (length page.room) text; room = drop (length text) page.room; loan = page.loan }

-- a page's bytes, written on or not
abbrev pub bytes_of : Written → List ℕ
bytes_of page = page.text ++ page.room

-- The same, said of the bytes: page' is the page after `text` was printed on it at a place; `end` is the place after the text, or the page's
-- end where it is cut off, and from there on the page is as it was.
-- Beyond the page there is no place: nothing fits there, and the page stays as it is.
pub record Printed (page : List ℕ) (at : ℕ) (text : List ℕ) (page' : List ℕ) (end : ℕ) : Type 0 where
  pub same_length : length page' ≡ length page
  pub reads : take end page' ≡ take (length page) (take at page ++ text)
  pub keeps : drop end page' ≡ drop end page
  pub inside : at ≤ length page → end ≤ length page

abbrev pub PrintsBehind : Type 0
PrintsBehind = (page : Written) (text : List ℕ) → Printed (bytes_of page) (length page.text) text (bytes_of (printed page text)) (length (printed page text).text)
