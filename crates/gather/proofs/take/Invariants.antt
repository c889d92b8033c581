-- `take` meets its contract: the bytes passed are kept, and the LF is as far on as it is in the rest, after them.
-- Assumes nothing.
use Rattle.std.proofs.Common.{ℕ, List, ◌++◌, ◌+◌, ◌≡◌, take, drop, length}
use Rattle.scan.specs.Bytes.{index_of}
use Rattle.gather.specs.Lines.{Keeps, Counts}
use Rattle.gather.proofs.take.Given as goal

abbrev pub invariant-loop-i : goal.invariant-loop-i
invariant-loop-i l =
    record {
      place : index_of 10 l.chunk ≡ l.i + index_of 10 (drop l.i l.chunk);
      room : length l.line ≡ length l.initial.line;
      counts : (bs : List ℕ) → Keeps l.initial.line l.initial.came bs → Counts l.line l.count (bs ++ take l.i l.chunk);
    }
