-- `words::decoder::long_position` meets its contract: 32 bits, read as signed.
-- Assumes nothing.
use mathlib.Core.Path.{ap, ◌∙◌}
use native.Mathlib.Omega.{arith}
use mir.Facts.{to_z-of_z}
use mir.Syntax.{w32}
use mir.Val.{SFits}
use Rattle.counts.specs.Wrap.{signed}
use Rattle.counts.proofs.Modulo.{read-signed}
use Rattle.words.proofs.decoder.long_position.Goals as goal

pub returns : goal.returns
returns c =
    let f : SFits w32 c.cast_signed.result = record { sfits = c.cast_signed.type_inv } in
    to_z-of_z f ∙ c.cast_signed.ensures ∙ read-signed _ (omega arith) ∙ ap (signed 32) (omega arith)
