-- `homing::run` meets its contract in a halted tick: neither test would count.
-- Assumes nothing.
use mathlib.Core.Path.{◌≡◌}
use mathlib.Core.Bool.{true, false}
use borrow.Author.Tests.{not-false}
use Rattle.legs.specs.Legs.{Leg}
use Rattle.legs.specs.Events.{View, view_of, event_counts, limit_counts}
use Rattle.legs.specs.Numbers.{leg_from}
use Rattle.homing.specs.Steps.{running_of}
use Rattle.homing.proofs.Phases.{runs}
use Rattle.homing.proofs.run.Goals as goal

-- "With bit 8 (halt) set nothing counts."
none-counts : (l : Leg) (v : View) → v.halted ≡ true → (event_counts l v ≡ false) × (limit_counts l v ≡ false)
unfolding event_counts limit_counts
none-counts l v h = (rw h, rw h)

pub returns-then-seen : goal.returns-then-seen
unfolding running_of
returns-then-seen c =
    let k : c.args.seen.kept ≡ true = not-false c.args.seen.kept c.if-not-seen.false in
    let x = c.args in
    let none = none-counts (leg_from x.route) (view_of x.seen) c.if-seen.true in
    rw (none.0, none.1, k) (runs x.route c.requires)
