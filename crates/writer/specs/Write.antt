-- 01, and 02, (iv) and (v): the writer, which "is told the layout". "The writer fills 15 words and keeps the rest of a longer buffer", 16 for layouts 2 and 3;
-- refused, it leaves the buffer untouched.
-- Assumes nothing.
use Rattle.std.specs.Prelude.{ℕ, ◌+◌, Bool, cond, not, List, ◌++◌, ltb, length, drop, Err, Ok}
use Rattle.settings.specs.declared.Settings.{Settings}
use Rattle.settings.specs.declared.Refusal.TheVariants.{UnknownLayout, BufferTooShort, LongValue, HomingTorqueLost}
use Rattle.settings.specs.Refusal.{Verdict}
use Rattle.layouts.specs.Layout.{is_layout, size, long_value, homing_torque_lost}
use Rattle.checks.specs.Check.{verdict_of}
use Rattle.words.specs.Encode.{words_of}

-- all words of a layout, the end word too
abbrev pub needed : ℕ → ℕ
needed layout = size layout + 1

-- 9: "writer lent fewer than 15 words"; "the writer needs 16 words for layout 2"; "Layout 3 is layout 2 with start data 3"
abbrev pub buffer_too_short : ℕ → List ℕ → Bool
buffer_too_short layout buffer = ltb (length buffer) (needed layout)

-- 2, "also by the writer, and there before 9"; 10, "tested after 9 and before 3"; 11, "tested right after 10"
unfoldable pub write_verdict : ℕ → Settings → List ℕ → Verdict
write_verdict layout s buffer =
    cond (not (is_layout layout)) (Err UnknownLayout)
    (cond (buffer_too_short layout buffer) (Err BufferTooShort)
    (cond (long_value layout s) (Err LongValue) (cond (homing_torque_lost layout s) (Err HomingTorqueLost) (verdict_of s))))

-- what the buffer holds after a verdict
abbrev pub buffer_after : Verdict → ℕ → Settings → List ℕ → List ℕ
buffer_after (Ok tt) layout s buffer = words_of layout s ++ drop (needed layout) buffer
buffer_after (Err r) layout s buffer = buffer

abbrev pub written : ℕ → Settings → List ℕ → List ℕ
written layout s buffer = buffer_after (write_verdict layout s buffer) layout s buffer
