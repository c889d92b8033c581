-- `simulator::stride_in` meets its contract.
-- Assumes nothing.
use mathlib.Core.Path.{sym, ◌∙◌}
use mir.Facts.{to_z-of_z}
use mir.Syntax.{w64}
use mir.Val.{SFits}
use borrow.Author.Rules.{rules}
use Rattle.simulator.proofs.Phases.{a-leg}
use Rattle.simulator.proofs.stride_in.Goals as goal

pub returns-then-is_running : goal.returns-then-is_running
returns-then-is_running c =
    let w : SFits w64 c.stride.result = search rules in
    rw (a-leg c.args.phase (sym c.if-is_running.ensures)) (to_z-of_z w ∙ c.stride.ensures)
