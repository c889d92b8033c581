-- `carriage::is_on_rail` meets its contract.
-- Assumes nothing.
use Rattle.std.proofs.Common.{◌<◌, ◌^◌, arith}
use Rattle.counts.proofs.Integers.{read_wide, read-unsigned}
use Rattle.carriage.specs.Rail.{on_rail}
use Rattle.carriage.proofs.Ranges.{lt_told, le_told}
use Rattle.carriage.proofs.is_on_rail.Goals as goal

pub returns : goal.returns
unfolding on_rail
returns c =
    let l : c.args.rail.length < 2 ^ 32 = omega arith in
    rw (c.contains.ensures.value, le_told, lt_told, read_wide c.ranges.start, read-unsigned c.args.rail.length l)
