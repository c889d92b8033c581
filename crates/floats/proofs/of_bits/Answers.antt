-- `floats::of_bits` meets its contract: infinity less infinity is the one NaN, and no other pattern is one.
-- Assumes nothing.
use Rattle.std.proofs.Common.{sym}
use lib.Ieee.{nan_bits, of_bits, of_fields, sub, add, neg}
use Rattle.floats.proofs.Laws.{nan_pattern}
use Rattle.floats.proofs.of_bits.Goals as goal

pub float_from_bits-result : goal.float_from_bits-result
unfolding nan_bits
float_from_bits-result c = rw c.if-bits.false tt

pub returns-then-bits : goal.returns-then-bits
unfolding nan_bits of_bits of_fields sub add neg
returns-then-bits c = sym (nan_pattern c.args.bits c.if-bits.true)
