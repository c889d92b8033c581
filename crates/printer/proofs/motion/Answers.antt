-- `printer::motion` meets its contract: part after part.
-- Assumes nothing.
use Rattle.std.proofs.Common.{w32, rules}
use mir.Facts.{to_z-of_z}
use mir.Val.{SFits}
use Rattle.page.proofs.Printing.{and_then}
use Rattle.printer.specs.Texts.{motion_text}
use Rattle.printer.proofs.motion.Goals as goal

pub returns : goal.returns
unfolding motion_text
returns c =
    let a = c.args.answer in
    let t : SFits w32 a.torque = search rules in
    let s : SFits w32 a.speed = search rules in
    let p : SFits w32 a.position = search rules in
    rw (to_z-of_z t, to_z-of_z s, to_z-of_z p) at
    (and_then _ _ _ _ _ (and_then _ _ _ _ _ (and_then _ _ _ _ _ c.named.ensures c.named-2.ensures) c.named-3.ensures) c.named-4.ensures)
