-- `cells::settings_in` meets its contract: three words read as signed, the rest as they are.
-- Assumes nothing.
use Rattle.patterns.proofs.Numbers.{read32}
use Rattle.cells.proofs.settings_in.Goals as goal

pub returns : goal.returns
returns c =
    rw (
      c.decode_with.ensures,
      read32 c.signed-offset.result c.signed-offset.type_inv,
      read32 c.signed-lower.result c.signed-lower.type_inv,
      read32 c.signed-upper.result c.signed-upper.type_inv,
      c.signed-offset.ensures,
      c.signed-lower.ensures,
      c.signed-upper.ensures,
      c.active_values-values.ensures,
    )
