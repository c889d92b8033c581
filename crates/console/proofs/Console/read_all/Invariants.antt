-- `Console::read_all` meets its contract: what is read of a known input is answered, and the reads suffice.
-- Assumes nothing.
use Rattle.std.proofs.Common.{ℕ, List, ◌≡◌}
use Rattle.std.specs.Prelude.{Some}
use Rattle.console.specs.Stream.{Stream, InStep}
use Rattle.console.proofs.Inputs.{Reached}
use Rattle.console.proofs.Console.read_all.Given as goal

abbrev pub invariant-loop-read : goal.invariant-loop-read
invariant-loop-read g l =
    (st : Stream) (bs : List ℕ) → InStep l.initial.self st → g.R.Read.remaining l.initial.input ≡ Some bs
    → Reached g.R.Read.remaining g.W.Write.contents l.input l.initial.output l.output l.self l._read bs st

-- The `for` needs no measure. In nightly/reads_never_fall.edit a `while` counts the reads down, and its measure takes these two lines:
-- the reads that are left
