-- `hybrid::demand` meets its contract: what is clamped is the whole part brought into the i32 range, which the clamp cannot tell from it.
-- Assumes nothing.
use Rattle.std.proofs.Common.{ℤ, ap, ◌∙◌, to_z-of_z, w32, SFits, rules}
use Rattle.counts.specs.Clamp.{clamped}
use Rattle.hybrid.specs.Hybrid.{whole_part}
use Rattle.hybrid.proofs.Saturate.{clamp_saturated}
use Rattle.hybrid.proofs.demand.Goals as goal

pub returns : goal.returns
returns c =
    let fits : SFits w32 c.whole.result = search rules in
    to_z-of_z {w = w32} {z = c.clamp.result} (search rules)
    ∙ rw (to_z-of_z fits, to_z-of_z c.ranges.low, to_z-of_z c.ranges.high) at c.clamp.ensures
    ∙ ap (λ (z : ℤ). clamped z c.args.low c.args.high) c.whole.ensures
    ∙ clamp_saturated c.args.low c.args.high c.ranges.low c.ranges.high (whole_part c.args.q)
