-- `simulator::take_words`: the words still to come lead to the same axis.
-- Assumes nothing.
use Rattle.std.proofs.Common.{◌≡◌, drop}
use Rattle.cells.specs.Cells.{axis_in}
use Rattle.simulator.specs.Run.{after_words}
use Rattle.simulator.proofs.take_words.Given as goal

abbrev pub invariant-loop-word : goal.invariant-loop-word
invariant-loop-word l = after_words (axis_in l.fn.axis) l.word-items ≡ after_words (axis_in l.axis) (drop l.word-index l.word-items)
