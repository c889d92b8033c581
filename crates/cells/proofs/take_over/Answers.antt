-- `cells::take_over` meets its contract: the values are copied, and what layouts carry in their own ways is stored over them.
-- Assumes nothing.
use Rattle.std.proofs.Common.{ap, ◌∙◌, to_z-of_z, rules}
use mir.Syntax.{w32}
use mir.Val.{SFits}
use Rattle.counts.specs.Wrap.{modulo}
use Rattle.cells.proofs.Laws.{taken-over}
use Rattle.cells.proofs.take_over.Goals as goal

pub returns : goal.returns
returns c =
    let s = c.args.s.now in
    let o : SFits w32 s.offset = search rules in
    let l : SFits w32 s.lower = search rules in
    let u : SFits w32 s.upper = search rules in
    rw (
      c.copy_values.ensures,
      c.pattern.ensures ∙ ap (modulo 32) (to_z-of_z o),
      c.pattern-2.ensures ∙ ap (modulo 32) (to_z-of_z l),
      c.pattern-3.ensures ∙ ap (modulo 32) (to_z-of_z u),
    )
    (taken-over c.args.axis.now c.lent.ensures s o.sfits l.sfits u.sfits)
