-- Every answer fits its page: each part of a text has a bound, and the bounds add up.
-- Assumes nothing.
use Rattle.std.specs.Prelude.{Err, Ok}
use Rattle.std.proofs.Common.{◌≡◌, ℕ, ◌*◌, ◌≤◌, min, Bool, true, false, not, eqb, List, [], ◌∷◌, length, drop, ℤ, refl, arith, length-append, length-drop, ltb-false}
use lib.ListN.{length-replicate}
use Rattle.settings.specs.declared.Settings.{Settings}
use Rattle.settings.specs.Refusal.{verdict_number, Verdict}
use Rattle.layouts.specs.Layout.{is_layout}
use Rattle.answers.specs.declared.Answer.{Answer}
use Rattle.words.specs.Encode.{words_of}
use Rattle.words.proofs.Words.{words_size}
use Rattle.writer.specs.Write.{needed, buffer_too_short, write_verdict, buffer_after, written}
use Rattle.simulator.specs.declared.Outcome.{Outcome}
use Rattle.simulator.specs.declared.Stop.{Stop}
use Rattle.simulator.specs.declared.Trace.{Trace}
use Rattle.simulator.specs.declared.Stop.TheVariants as stop
use Rattle.carriage.specs.declared.Rail.{Rail}
use Rattle.drawing.proofs.Fits.{picture-bounded}
use Rattle.sheets.specs.declared.Writing.{Writing}
use Rattle.numerals.specs.Writing.{hexadecimal}
use Rattle.numerals.proofs.Short.{Short, is, both, all, either, within, digits-short, decimal-short, whole-short}
use Rattle.tokens.specs.Ascii.{ascii}
use Rattle.printer.specs.Texts.{trade_word, word_text, motion_text, tick_text, words_text, stop_word, run_text}
use Rattle.complaints.specs.Texts.{expected_text, line_and_column_text}
use Rattle.cursors.specs.declared.Expected.{Expected}
use Rattle.cursors.specs.declared.Expected.TheVariants.{Keyword, Digits, Whole, Float, Command, At, Switches, Standstill, Set, End}
use Rattle.lent.specs.Lent.{lent_of, written_text}
use Rattle.lines.specs.declared.Line.TheVariants as line
use Rattle.rules.specs.Word.{word_of}
use Rattle.rules.specs.Tick.{tick_of}
use Rattle.session.specs.Answering.{outcome_of, trace_in, drawn_text, Fits, LongFits}

hexadecimal-short : (places n : ℕ) → Short places (hexadecimal places n)
hexadecimal-short places n = digits-short 16 true places n

trade-short : (n : ℕ) → Short 21 (trade_word n)
trade-short n =
    either (eqb n 0) (is (omega arith))
    (either (eqb n 1) (is (omega arith))
    (either (eqb n 2) (is (omega arith))
    (either (eqb n 3) (is (omega arith))
    (either (eqb n 4) (is (omega arith))
    (either (eqb n 5) (is (omega arith))
    (either (eqb n 6) (is (omega arith)) (either (eqb n 7) (is (omega arith)) (either (eqb n 8) (is (omega arith)) (either (eqb n 9) (is (omega arith)) (either (eqb n 10) (is (omega arith)) (either (eqb n 11) (is (omega arith)) (is (omega arith)))))))))))))

word-short : (n : ℕ) → Short 1024 (word_text n)
word-short n = within (both (both (all (ascii "word ")) (decimal-short n)) (trade-short n)) (omega arith)

tick-short : (a : Answer) → Short 1024 (tick_text a)
unfolding motion_text tick_text
tick-short a =
    within
    (both
    (both
    (both
    (both
    (both
    (both
    (both (both (both (all (ascii "tick ")) (decimal-short a.number)) (both (all (ascii " torque ")) (whole-short a.torque))) (both (all (ascii " speed ")) (whole-short a.speed)))
    (both (all (ascii " position ")) (whole-short a.position)))
    (all (ascii " status ")))
    (hexadecimal-short 4 a.status))
    (both (all (ascii " mode ")) (whole-short a.mode)))
    (both (all (ascii " alarm ")) (decimal-short a.alarm)))
    (trade-short a.number))
    (omega arith)

words-short : (ws : List ℕ) → Short (9 * length ws) (words_text ws)
unfolding words_text
words-short [] = is (omega arith)
words-short (w ∷ ws) = within (both (both (all (32 ∷ [])) (hexadecimal-short 8 w)) (words-short ws)) (omega arith)

-- the writer keeps the buffer's length
kept : (layout : ℕ) (s : Settings) (buffer : List ℕ) → length (written layout s buffer) ≡ length buffer
unfolding write_verdict
kept layout s buffer = go (not (is_layout layout)) (buffer_too_short layout buffer) refl refl
  where
    filled : (v : Verdict) → needed layout ≤ length buffer → length (buffer_after v layout s buffer) ≡ length buffer
    filled (Ok tt) h = omega (arith, length-append (words_of layout s) (drop (needed layout) buffer), words_size layout s, length-drop (needed layout) buffer)
    filled (Err r) h = refl

    go : (u t : Bool) → not (is_layout layout) ≡ u → buffer_too_short layout buffer ≡ t → length (written layout s buffer) ≡ length buffer
    go true t d e = rw d
    go false true d e = rw (d, e)
    go false false d e = filled (write_verdict layout s buffer) (ltb-false (length buffer) (needed layout) e)

written-short : (name : List ℕ) (w : Writing) → Short 7 name → Short 1024 (written_text name w)
written-short name w h =
    let n = verdict_number (write_verdict w.layout w.settings (lent_of w)) in
    let ws = written w.layout w.settings (lent_of w) in
    within (both (both (both h (decimal-short n)) (words-short ws)) (trade-short n))
    (omega (arith, kept w.layout w.settings (lent_of w), length-replicate {A = ℕ} (min w.length 32) 0xDEADBEEF))

stop-short : (s : Stop) → Short 5 (stop_word s)
stop-short stop.None = is (omega arith)
stop-short stop.Homed = is (omega arith)
stop-short stop.Failed = is (omega arith)
stop-short stop.Ticks = is (omega arith)

run_short : (name : List ℕ) (o : Outcome) → Short 8 name → Short 87 (run_text name o)
run_short name o h =
    within
    (both (both (both (both (both h (decimal-short o.number)) (both (all (ascii " ticks ")) (decimal-short o.ticks))) (all (ascii " stop "))) (stop-short o.stop)) (trade-short o.number))
    (omega arith)

drawn-short : (r : Rail) (start : ℤ) (t : Trace) → Short 637 (drawn_text r start t)
drawn-short r start t = either (eqb t.outcome.number 0) (is (picture-bounded r start t)) (is (omega arith))

line-and-column-short : (line column : ℕ) → Short 52 (line_and_column_text line column)
line-and-column-short line column =
    within (both (both (all (ascii "unreadable ")) (decimal-short line)) (both (all (32 ∷ [])) (decimal-short column))) (omega arith)

expected-short : (e : Expected) → Short 37 (expected_text e)
expected-short Keyword = is (omega arith)
expected-short Digits = is (omega arith)
expected-short Whole = is (omega arith)
expected-short Float = is (omega arith)
expected-short Command = is (omega arith)
expected-short At = is (omega arith)
expected-short Switches = is (omega arith)
expected-short Standstill = is (omega arith)
expected-short Set = is (omega arith)
expected-short End = is (omega arith)

pub long-fits : LongFits
long-fits line = (within {n = 1024} (both (line-and-column-short line 256) (all (ascii " line too long\n"))) (omega arith)).short

pub fits : Fits
fits s line.Blank = omega arith
fits s line.Fresh = omega arith
fits s (line.Word w) = (word-short (verdict_number (word_of s.axis w).verdict)).short
fits s (line.Tick t) = (tick-short (tick_of s.axis t).answer).short
fits s (line.Sheet w) = (written-short (ascii "sheet ") w (is (omega arith))).short
fits s (line.Layout w) = (written-short (ascii "layout ") w (is (omega arith))).short
fits s (line.Settings x) = omega arith
fits s (line.Rail r) = omega arith
fits s (line.Run t) = (within {n = 1024} (run_short (ascii "run ") (outcome_of s t) (is (omega arith))) (omega arith)).short
fits s (line.Picture t) =
    (within {n = 1024} (both (run_short (ascii "picture ") (trace_in s t).outcome (is (omega arith))) (drawn-short s.rail t.start (trace_in s t))) (omega arith)).short
fits s (line.Unreadable t) = (within {n = 1024} (both (line-and-column-short s.lines t.column) (expected-short t.expected)) (omega arith)).short
