-- A reading takes the words that stand at a place, and gives what they say, or the trouble with the first word that is not accepted, and the place past
-- those that it took.
-- Assumes nothing.
use Rattle.std.specs.Prelude.{ℕ, Bool, true, false, List, Option, Some, None, Result, Ok, Err}
use Rattle.cursors.specs.Place.{Place, span_at, bytes_at, past, at_end}
use Rattle.cursors.specs.Trouble.{trouble_at}
use Rattle.cursors.specs.declared.Expected.{Expected}
use Rattle.cursors.specs.declared.Expected.TheVariants.{End}
use Rattle.cursors.specs.declared.Trouble.{Trouble}

abbrev pub Reading : Type 0 → Type 0
Reading A = Place → Result A Trouble × Place

-- a value, by no word
abbrev pub given : {A : Type 0} → A → Reading A
given a c = (Ok a, c)

-- trouble, at a word that came before
abbrev pub refused : {A : Type 0} → Trouble → Reading A
refused t c = (Err t, c)

-- where what came before is read, what follows; where it is not, nothing more
abbrev pub onward : {A B : Type 0} → (A → Reading B) → Result A Trouble → Reading B
onward f (Ok a) c = f a c
onward f (Err e) c = (Err e, c)

-- one reading after the other
infixl 10 ◌>>=◌
abbrev pub ◌>>=◌ : {A B : Type 0} → Reading A → (A → Reading B) → Reading B
(m >>= f) c = onward f (m c).0 (m c).1

-- a word that begins at a place, and what it spells
abbrev pub accepted : {A : Type 0} → ℕ → Option A → Expected → Result A Trouble
accepted at (Some a) e = Ok a
accepted at None e = Err (trouble_at at e)

abbrev pub judged : ℕ → Bool → Expected → Result (Unit {0}) Trouble
judged at true e = Ok tt
judged at false e = Err (trouble_at at e)

-- the next word, if it spells a value
abbrev pub word_read : {A : Type 0} → (List ℕ → Option A) → Expected → Reading A
word_read spelling e c = (accepted (span_at c).start (spelling (bytes_at c)) e, past c)

-- no more words
unfoldable pub end_read : Reading (Unit {0})
end_read c = (judged (span_at c).start (at_end c) End, past c)
