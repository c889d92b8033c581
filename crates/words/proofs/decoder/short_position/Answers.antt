-- `words::decoder::short_position` meets its contract: the two shifts leave the low 28 bits, read as signed.
-- Assumes nothing.
use Prim.Native.Nat.{◌^◌}
use mir.Facts.{to_z-of_z}
use mir.Syntax.{w32}
use mir.Val.{SFits}
use Rattle.words.proofs.Shifts.{shifted, down-fits}
use Rattle.words.proofs.decoder.short_position.Goals as goal

pub returns : goal.returns
returns c =
    let z = c.cast_signed.result in
    let f : SFits w32 z = record { sfits = c.cast_signed.type_inv } in
    rw (to_z-of_z f, to_z-of_z (down-fits z (2 ^ 4) f), c.cast_signed.ensures) (shifted c.args.low)
