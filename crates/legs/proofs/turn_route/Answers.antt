-- `legs::turn_route` fits 24 bits: it is another method's route a, and the definition's routes do.
-- Assumes nothing.
use Prim.Native.Nat.{◌-◌}
use mathlib.Core.Path.{◌≡◌}
use native.Mathlib.Omega.{arith}
use Rattle.counts.proofs.Between.{within}
use Rattle.legs.specs.Numbers.{turn_route}
use Rattle.legs.proofs.Rows.{turn_rule, turn_small}
use Rattle.legs.proofs.turn_route.Goals as goal

pub returns-in-23-to-30-clause-small : goal.returns-in-23-to-30-clause-small
returns-in-23-to-30-clause-small c =
    let m = c.args.method in
    let e : c.main_route.result - 32 ≡ turn_route m = rw (turn_rule m, within 23 30 m (omega arith) (omega arith), c.main_route.ensures) in
    rw e (turn_small m)
