-- `simulator::begin` meets its contract.
-- Assumes nothing.
use mathlib.Core.Path.{◌≡◌, ap, ◌∙◌}
use lib.ListN.{replicate}
use native.Mathlib.Omega.{arith}
use Rattle.cells.specs.Cells.{axis_in}
use Rattle.counts.proofs.Integers.{read_wide}
use Rattle.simulator.specs.Run.{settled, started_from}
use Rattle.simulator.proofs.Settled.{third-verdict, sixteen-words}
use Rattle.simulator.proofs.begin.Goals as goal

pub returns : goal.returns
returns c =
    let s = c.args.s in
    let v = third-verdict s (replicate 16 0) (omega arith) ∙ c.requires in
    let ws = c.write.ensures.words ∙ sixteen-words s v in
    let a : axis_in c.take_words.new.axis ≡ settled s = c.take_words.ensures ∙ rw (c.fresh.ensures.axis, ws) in
    rw (read_wide c.ranges.start) at c.enable_and_start.ensures ∙ ap (started_from c.args.rail c.args.start) a
