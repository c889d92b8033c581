-- `Console::serve` meets its contract: line after line of the chunk is answered, as the stream does it.
-- Assumes nothing.
use Rattle.std.proofs.Common.{length}
use Rattle.console.specs.Stream.{Stream, InStep}
use Rattle.console.proofs.Streams.{Served}
use Rattle.console.proofs.Console.serve.Given as goal

abbrev pub invariant-loop-after : goal.invariant-loop-after
invariant-loop-after g l = (st : Stream) → InStep l.initial.self st → Served g.W.Write.contents l.initial.output l.output l.chunk l.rest l.self st

abbrev pub decreases-loop-after : goal.decreases-loop-after
decreases-loop-after g l = length l.rest
