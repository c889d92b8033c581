-- `writer::first_words`: after i turns the buffer starts with the words of the first i values, and the sum is theirs.
-- Assumes nothing.
use Rattle.std.proofs.Common.{◌≡◌, ◌++◌, take, drop}
use Rattle.words.specs.Encode.{checksum_of, words_from}
use Rattle.writer.proofs.first_words.Given as goal

abbrev pub invariant-loop-i : goal.invariant-loop-i
invariant-loop-i l =
    record {
      filled : l.buffer ≡ words_from 0 (take l.i l.values) ++ drop l.i l.fn.buffer;
      summed : l.sum ≡ checksum_of (take l.i l.values);
    }
