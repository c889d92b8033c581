-- A word that is no text is none of the names, as the empty text is none.
-- Assumes nothing.
use Rattle.std.specs.Prelude.{Result}
use Rattle.std.proofs.Common.{◌≡◌, ℕ, zero, suc, ◌<◌, Bool, true, false, not, ◌&&◌, List, [], ◌∷◌, eqb, ltb, length, get_or, arith, refl, ap, sym, ◌∙◌}
use Rattle.std.specs.Str.{is_utf8, bytes_eq}
use Rattle.std.proofs.lemmas.Bool.{and_parts, false_from_ne_true}
use Rattle.std.proofs.lemmas.Str.{IsUtf8-from_ascii, is_utf8-from_IsUtf8}
use borrow.Author.Tests.{ltb-true}
use Rattle.std.proofs.lemmas.Slice.Eq.{bytes_eq-Decides}
use Rattle.cursors.specs.Names.{names, meaning_of, name_of, choice_read}
use Rattle.cursors.specs.Place.{Place, span_at, bytes_at, past}
use Rattle.cursors.specs.Reading.{Reading, refused}
use Rattle.cursors.specs.Trouble.{trouble_at}
use Rattle.cursors.specs.declared.Expected.{Expected}
use Rattle.cursors.specs.declared.Trouble.{Trouble}

-- a table's names are ASCII, and none is empty
abbrev pub ascii : List ℕ → Bool
ascii [] = true
ascii (b ∷ bs) = ltb b 128 && ascii bs

abbrev pub all_names : List (List ℕ) → Bool
all_names [] = true
all_names (w ∷ ws) = ascii w && (not (eqb (length w) 0) && all_names ws)

ascii_bytes : (w : List ℕ) → ascii w ≡ true → (i : ℕ) → get_or w i 0 < 128
ascii_bytes [] e i = omega arith
ascii_bytes (b ∷ bs) e zero = omega (arith, ltb-true b 128 (and_parts (ltb b 128) (ascii bs) e).0)
ascii_bytes (b ∷ bs) e (suc i) = ascii_bytes bs (and_parts (ltb b 128) (ascii bs) e).1 i

texts : (w : List ℕ) → ascii w ≡ true → is_utf8 w ≡ true
texts w e = is_utf8-from_IsUtf8 w (IsUtf8-from_ascii w (ascii_bytes w e))

-- a text that is not empty is another than the empty one
not_empty : (w : List ℕ) → not (eqb (length w) 0) ≡ true → bytes_eq [] w ≡ false
not_empty [] e = cc
not_empty (x ∷ xs) e = refl

other : (word w : List ℕ) → is_utf8 word ≡ false → is_utf8 w ≡ true → bytes_eq word w ≡ false
other word w n t =
    false_from_ne_true (bytes_eq word w)
    (λ e. let same = (bytes_eq-Decides word w).0 e in let both : true ≡ false = sym t ∙ ap is_utf8 (sym same) ∙ n in cc)

module _ {A : Type 0} where
  no-text : (word : List ℕ) (rows : List (List ℕ × A)) (none : A) → is_utf8 word ≡ false → all_names (names rows) ≡ true
      → meaning_of [] rows none ≡ meaning_of word rows none
  no-text word [] none n e = refl
  no-text word (row ∷ rows) none n e =
      let w = row.0 in
      let parts = and_parts (ascii w) (not (eqb (length w) 0) && all_names (names rows)) e in
      let later = and_parts (not (eqb (length w) 0)) (all_names (names rows)) parts.1 in
      rw (not_empty w later.0, other word w n (texts w parts.0), no-text word rows none n later.1)

  named_by : (t : Bool) (word : List ℕ) (rows : List (List ℕ × A)) (none : A) → is_utf8 word ≡ t → all_names (names rows) ≡ true
      → meaning_of (name_of word) rows none ≡ meaning_of word rows none
  named_by true word rows none e h = rw e
  named_by false word rows none e h = rw e (no-text word rows none e h)

  -- what a word's name means is what the word means
  pub meaning_told : {name word bytes : List ℕ} (rows : List (List ℕ × A)) (none : A) → all_names (names rows) ≡ true → name ≡ name_of word
      → word ≡ bytes → meaning_of name rows none ≡ meaning_of bytes rows none
  meaning_told {name} {word} {bytes} rows none h told read =
      ap (λ n. meaning_of n rows none) told ∙ named_by (is_utf8 word) word rows none refl h ∙ ap (λ w. meaning_of w rows none) read

-- what is read on by a word's name is what is read on by the word
pub read_by_name : {A : Type 0} {outcome : Result A Trouble × Place} {name word : List ℕ} {at : ℕ} {unknown : Trouble} {next : Place} (c : Place)
    (rows : List (List ℕ × Reading A)) (e : Expected) → all_names (names rows) ≡ true → outcome ≡ meaning_of name rows (refused unknown) next
    → name ≡ name_of word → unknown ≡ trouble_at at e → at ≡ (span_at c).start → word ≡ bytes_at c → next ≡ past c → outcome ≡ choice_read rows e c
read_by_name {unknown = unknown} {next = next} c rows e h said told refusal placed read moved =
    said ∙ ap (λ f. f next) (meaning_told rows (refused unknown) h told read) ∙ rw (refusal, placed, moved)
