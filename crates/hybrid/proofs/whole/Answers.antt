-- `hybrid::whole` meets its contract: q's bit pattern stands for q, and its top bit is the sign.
-- Assumes nothing.
use Rattle.std.proofs.Common.{◌≡◌, ◌^◌, leb, sym, ◌∙◌, to_z-of_z, w32, rules}
use lib.Ieee.{binary32, to_bits}
use lib.Ieee.Bits.{of_bits-to_bits}
use Rattle.counts.specs.Clamp.{clamped}
use Rattle.hybrid.specs.Hybrid.{size_of, negative, whole_part, saturated}
use Rattle.hybrid.proofs.Floats.{no_nan, not_finite}
use Rattle.hybrid.proofs.Pattern.{bits-sign}
use Rattle.hybrid.proofs.Saturate.{saturates}
use Rattle.hybrid.proofs.whole.Goals as goal

pub float_to_bits-bits : goal.float_to_bits-bits
float_to_bits-bits c = no_nan c.args.q (sym c.is_finite.ensures ∙ c.if-is_finite.true)

pub size-requires : goal.size-requires
size-requires c = rw (of_bits-to_bits binary32 c.args.q (search rules)) (sym c.is_finite.ensures ∙ c.if-is_finite.true)

pub returns-then-is_finite : goal.returns-then-is_finite
unfolding whole_part
returns-then-is_finite c =
    let q = c.args.q in
    let b = to_bits binary32 q in
    let sign : negative q ≡ leb (2 ^ 31) b = rw (of_bits-to_bits binary32 c.args.q (search rules)) at (bits-sign b (rw (of_bits-to_bits binary32 c.args.q (search rules)) (sym c.is_finite.ensures ∙ c.if-is_finite.true))) in
    to_z-of_z {w = w32} {z = c.signed.result} (search rules)
    ∙ c.signed.ensures
    ∙ rw (sign, c.size.ensures, (of_bits-to_bits binary32 c.args.q (search rules))) (saturates (leb (2 ^ 31) b) (size_of q))

pub returns-else-is_finite : goal.returns-else-is_finite
unfolding saturated clamped
returns-else-is_finite c = rw (not_finite c.args.q (sym c.is_finite.ensures ∙ c.if-is_finite.false))
