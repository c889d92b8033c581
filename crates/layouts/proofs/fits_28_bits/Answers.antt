-- `layouts::fits_28_bits` meets its contract: its two tests are the definition's.
-- Assumes nothing.
use mir.Facts.{to_z-of_z}
use Rattle.counts.specs.Fits.{fits}
use Rattle.layouts.proofs.fits_28_bits.Goals as goal

pub returns : goal.returns
unfolding fits
returns c = rw (to_z-of_z c.ranges.position)
