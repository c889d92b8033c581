-- The settings of a run: the writer, told layout 3, refuses what is not acceptable, and its words bring the rest into force on a fresh axis.
-- Assumes nothing.
use Rattle.std.specs.Prelude.{Ok}
use Prim.Native.Nat.{ℕ, ◌≤◌}
use mathlib.Core.Path.{◌≡◌}
use mathlib.Core.List.{List, append-nil}
use lib.ListN.{length, replicate}
use borrow.Author.Tests.{le-ltb}
use Rattle.settings.specs.declared.Settings.{Settings}
use Rattle.checks.specs.Check.{verdict_of}
use Rattle.words.specs.Encode.{words_of}
use Rattle.writer.specs.Write.{write_verdict, written}

-- layout 3 is a layout and loses nothing: "3, 5 or 6 as by the writer"
pub third-verdict : (s : Settings) (buffer : List ℕ) → 16 ≤ length buffer → write_verdict 3 s buffer ≡ verdict_of s
unfolding write_verdict
third-verdict s buffer h = rw (le-ltb (length buffer) 16 h)

-- sixteen words, filled
pub sixteen-words : (s : Settings) → write_verdict 3 s (replicate 16 0) ≡ Ok tt → written 3 s (replicate 16 0) ≡ words_of 3 s
sixteen-words s e = rw e (append-nil (words_of 3 s))
