-- `axis::tick` meets its contract.
-- Assumes nothing.
use mathlib.Core.Path.{sym, ◌∙◌}
use Rattle.axis.proofs.Branches.{ticked, refused-tick}
use Rattle.axis.proofs.tick.Goals as goal

pub returns-then-is_active : goal.returns-then-is_active
returns-then-is_active c =
    ticked _ _ _ _ (sym c.is_active.ensures ∙ c.if-is_active.true) c.tick.ensures

pub returns-else-is_active : goal.returns-else-is_active
returns-else-is_active c = refused-tick _ _ _ (sym c.is_active.ensures ∙ c.if-is_active.false) c.refused.ensures
