-- "words between spaces or tabs"
-- Assumes nothing.
use Rattle.std.specs.Prelude.{ℕ, suc, ◌+◌, ◌-◌, ◌≤◌, min, Bool, true, false, cond, not, ◌||◌, List, [], ◌∷◌, eqb, length, take, drop}
use Rattle.tokens.specs.declared.Span.{Span}

abbrev pub blank_of : ℕ → Bool
blank_of b = eqb b 32 || eqb b 9

-- whether a byte is blank (`blank`), or is not (not `blank`)
abbrev pub blank_is : Bool → ℕ → Bool
blank_is blank b = cond blank (blank_of b) (not (blank_of b))

-- how many bytes in front are blank; or, of a word, are not
unfoldable pub run_of : Bool → List ℕ → ℕ
run_of blank [] = 0
run_of blank (b ∷ bs) = cond (blank_is blank b) (suc (run_of blank bs)) 0

-- the first place from `at` on that is of the other kind, or the end
abbrev pub skip_of : Bool → List ℕ → ℕ → ℕ
skip_of blank text at = min (at + run_of blank (drop at text)) (length text)

-- the next word from `at` on; empty, at the end, where there is none
unfoldable pub next_word : List ℕ → ℕ → Span
next_word text at = record { start = skip_of true text at; end = skip_of false text (skip_of true text at) }

-- a span's bytes
abbrev pub bytes_of : List ℕ → Span → List ℕ
bytes_of text w = take (w.end - w.start) (drop w.start text)

-- a span lies in a text
abbrev pub SpanIn : Span → List ℕ → Type 0
SpanIn w text = (w.start ≤ w.end) × (w.end ≤ length text)
