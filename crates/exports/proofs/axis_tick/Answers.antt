-- `exports::axis_tick` meets its contract.
-- Assumes nothing.
use mathlib.Core.Path.{refl, sym, ◌∙◌}
use Rattle.axis.proofs.Branches.{refused-tick}
use Rattle.records.specs.Words.{tick_in}
use Rattle.exports.proofs.axis_tick.Goals as goal

pub returns-else-is_active : goal.returns-else-is_active
returns-else-is_active c =
    let b = c.args in
    record {
      answer = c.refused-refused.result;
      call = refused-tick b.axis.now (tick_in b.event.now b.floats.now) c.refused-refused.result (sym c.is_active.ensures ∙ c.if-is_active.false) c.refused-refused.ensures;
      words = c.put_answer-else-is_active.ensures;
      numbered = refl;
    }
