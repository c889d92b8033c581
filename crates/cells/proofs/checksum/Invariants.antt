-- `cells::checksum` meets its contract: after i turns the total is that of kind 14's value and the first i, modulo 2 ^ 32.
-- Assumes nothing.
use Rattle.std.proofs.Common.{◌≡◌, ◌+◌, ◌%◌, ◌^◌}
use Rattle.words.specs.Encode
use Rattle.words.specs.Encode.{checksum_of}
use Rattle.cells.specs.Lists.{cells_from}
use Rattle.cells.specs.Cells.{value_in}
use Rattle.cells.proofs.checksum.Given as goal

abbrev pub invariant-loop-value : goal.invariant-loop-value
invariant-loop-value l = l.total ≡ (value_in l.axis 14 + Encode.total (cells_from 24 l.value-index l.axis)) % 2 ^ 32
