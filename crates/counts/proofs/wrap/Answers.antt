-- `counts::wrap` meets its contract: the two shifts leave the low 32 bits, read as signed.
-- Assumes nothing.
use mir.Facts.{to_z-of_z}
use Rattle.counts.proofs.Integers.{widen}
use Rattle.counts.proofs.Modulo.{wrapped-shift, wrapped-fits}
use Rattle.counts.proofs.wrap.Goals as goal

pub returns : goal.returns
returns c =
    let z = c.args.z in
    rw (wrapped-shift z c.ranges.z, to_z-of_z (widen (wrapped-fits z)), to_z-of_z (wrapped-fits z))
