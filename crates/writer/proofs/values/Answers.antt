-- `writer::values` meets its contract: every field in range fits its word.
-- Assumes nothing.
use mir.Facts.{to_z-of_z}
use Rattle.counts.proofs.Fits.{fits-i32}
use Rattle.settings.proofs.Within.{within}
use Rattle.words.specs.Encode.{values_of}
use Rattle.writer.proofs.values.Goals as goal

pub limit_pair-set1-requires : goal.limit_pair-set1-requires
limit_pair-set1-requires c = let w = within c.args.s c.requires in (w.positive1, w.negative1)

pub limit_pair-set2-requires : goal.limit_pair-set2-requires
limit_pair-set2-requires c = let w = within c.args.s c.requires in (w.positive2, w.negative2)

pub returns : goal.returns
unfolding values_of
returns c =
    let s = c.args.s in
    let w = within s c.requires in
    rw (
      c.low-offset.ensures,
      c.low-lower.ensures,
      c.low-upper.ensures,
      c.limit_pair-set1.ensures,
      c.limit_pair-set2.ensures,
      c.option_data-option.ensures,
      c.tops-tops.ensures,
      to_z-of_z (fits-i32 s.offset w.offset),
      to_z-of_z (fits-i32 s.lower w.lower),
      to_z-of_z (fits-i32 s.upper w.upper),
    )
