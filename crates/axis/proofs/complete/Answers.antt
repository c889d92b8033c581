-- `axis::complete` meets its contract.
-- Assumes nothing.
use mathlib.Core.Path.{sym, ap, ◌∙◌}
use Rattle.states.specs.States.{live_of}
use Rattle.axis.proofs.Taking.{live_end, takeover-end}
use Rattle.axis.proofs.complete.Goals as goal

pub returns-then-is_live : goal.returns-then-is_live
returns-then-is_live c =
    live_end _ _ (sym (c.is_live.ensures ∙ ap live_of c.state-state.ensures) ∙ c.if-is_live.true)

pub returns-else-is_live : goal.returns-else-is_live
returns-else-is_live c =
    takeover-end _ _ c.args.s c.requires (sym (c.is_live.ensures ∙ ap live_of c.state-state.ensures) ∙ c.if-is_live.false) c.take_over.ensures
