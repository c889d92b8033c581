-- 01, "Refused words", and 02, (iv) and (v): what one settings word does to the pending settings (01: the unfinished sheet).
-- Assumes nothing.
use Rattle.std.specs.Prelude.{ℕ, ◌+◌, Bool, cond, not, ◌&&◌, List, ◌∷◌, eqb, ltb, set, replicate, Err, Ok}
use Rattle.settings.specs.declared.Settings.{Settings}
use Rattle.settings.specs.declared.Refusal.{Refusal}
use Rattle.settings.specs.declared.Refusal.TheVariants.{OutOfSequence, UnknownLayout, OutOfRange, ChecksumMismatch}
use Rattle.settings.specs.Refusal.{number_of, Verdict}
use Rattle.layouts.specs.Layout.{is_layout, size}
use Rattle.checks.specs.Check.{limits_verdict}
use Rattle.reader.specs.Pending.{Pending, Outcome, Refused, Stored, Complete, Reading}
use Rattle.words.specs.Word.{kind_of, data_of}
use Rattle.kinds.specs.Fields.{field_ok}
use Rattle.words.specs.Decode.{layout_of, settings_of}
use Rattle.words.specs.Encode.{checksum_of}

-- nothing pending
abbrev pub empty_pending : Pending
empty_pending = record { count = 0; values = replicate 15 0 }

-- a start word has come
abbrev pub started : ℕ → Pending
started layout = record { count = 1; values = layout ∷ replicate 14 0 }

abbrev pub layout_in : Pending → ℕ
layout_in p = layout_of p.values

-- "Kinds come once each in rising order": the kind that is due after so many words of a layout is the next one that the layout has, then
-- the end, 15 (also past that, where no history leads)
abbrev pub due_after : ℕ → ℕ → ℕ
due_after layout count = cond (ltb count (size layout)) count 15

abbrev pub due_kind : Pending → ℕ
due_kind p = due_after (layout_in p) p.count

-- "number; unfinished sheet emptied"
abbrev pub refused : Refusal → Reading
refused r = record { outcome = Refused r; pending = empty_pending }

abbrev pub stored : Pending → Reading
stored p = record { outcome = Stored; pending = p }

-- an end word that meets none of 1 to 6: the settings are handed out, and the pending ones are emptied either way
abbrev pub complete : Settings → Reading
complete s = record { outcome = Complete s; pending = empty_pending }

-- 1: "word's kind is neither the next one due nor 0"
abbrev pub out_of_sequence : Pending → ℕ → Bool
out_of_sequence p w = not (eqb (kind_of w) (due_kind p)) && not (eqb (kind_of w) 0)

-- "A start word always begins afresh, also halfway." 2: "A layout nobody defined"
unfoldable pub start_read : ℕ → Reading
start_read x = cond (is_layout x) (stored (started x)) (refused UnknownLayout)

-- one more word's data
abbrev pub kept : Pending → ℕ → ℕ → Pending
kept p kind x = record { count = kind + 1; values = set p.values kind x }

-- 3: "data outside its field", by the layout that has begun
unfoldable pub field_read : Pending → ℕ → ℕ → Reading
field_read p kind x = cond (field_ok (layout_in p) kind x) (stored (kept p kind x)) (refused OutOfRange)

-- by what the end word meets: 4, 5, 6 or nothing
abbrev pub judged : Settings → Verdict → Reading
judged s (Ok tt) = complete s
judged s (Err r) = refused r

-- 4: "end word's data differs from the sum"; then 5 and 6
abbrev pub close_verdict : Settings → ℕ → ℕ → Verdict
close_verdict s sum x = cond (eqb x sum) (limits_verdict s) (Err ChecksumMismatch)

unfoldable pub end_verdict : List ℕ → ℕ → Verdict
end_verdict values x = close_verdict (settings_of values) (checksum_of values) x

unfoldable pub end_read : Pending → ℕ → Reading
end_read p x = judged (settings_of p.values) (end_verdict p.values x)

-- "An end word is tested 1, 4, 5, 6, 7; other words 1, then 2 or 3"; 7 is the axis's
unfoldable pub read_of : Pending → ℕ → Reading
read_of p w =
    cond (out_of_sequence p w) (refused OutOfSequence)
    (cond (eqb (kind_of w) 0) (start_read (data_of w))
    (cond (eqb (kind_of w) 15) (end_read p (data_of w)) (field_read p (kind_of w) (data_of w))))

-- the number that a word is answered with, before test 7
abbrev pub outcome_number : Outcome → ℕ
outcome_number (Refused r) = number_of r
outcome_number Stored = 0
outcome_number (Complete s) = 0
