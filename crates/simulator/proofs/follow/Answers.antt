-- `simulator::follow` meets its contract.
-- Assumes nothing.
use Prim.Native.Nat.{ℕ}
use mathlib.Core.Path.{◌≡◌, sym, ap, ◌∙◌}
use lib.IntN.{ℤ}
use mir.Facts.{to_z-of_z}
use Rattle.settings.specs.declared.Settings.{Settings}
use Rattle.carriage.specs.declared.Rail.{Rail}
use Rattle.simulator.specs.declared.Outcome.{Outcome}
use Rattle.simulator.specs.Run.{run_of}
use Rattle.simulator.proofs.Runs.{Admitted, admitted, runs}
use Rattle.simulator.proofs.Traces.{legs-run, legs-none}
use Rattle.simulator.proofs.follow.Goals as goal

-- the run was not refused
not-refused : (r : Rail) (s : Settings) (start : ℤ) (n : ℕ) (o : Outcome) → o ≡ run_of r s start n → o.number ≡ 0 → Admitted r s start n
not-refused r s start n o e z = admitted r s start n (runs r s start n (ap (λ (q : Outcome). q.number) (sym e) ∙ z))

pub begin-requires : goal.begin-requires
begin-requires c =
    let a = c.args in
    let e = rw (to_z-of_z c.ranges.start) at c.run-outcome.ensures in
    (not-refused a.rail a.s a.start a.ticks c.run-outcome.result e c.if-outcome-eq0.true).accepted

pub first_trip-requires : goal.first_trip-requires
first_trip-requires c =
    let a = c.args in
    let e = rw (to_z-of_z c.ranges.start) at c.run-outcome.ensures in
    rw (to_z-of_z c.ranges.start) (runs a.rail a.s a.start a.ticks (ap (λ (q : Outcome). q.number) (sym e) ∙ c.if-outcome-eq0.true))

pub returns-then-outcome-eq0 : goal.returns-then-outcome-eq0
returns-then-outcome-eq0 c =
    let a = c.args in
    let t = c.first_trip.ensures in
    let e = rw (to_z-of_z c.ranges.start) at c.run-outcome.ensures in
    let b = rw (to_z-of_z c.ranges.start) at c.begin.ensures in
    c.run_legs.ensures ∙ legs-run a.rail a.s a.start a.ticks c.run-outcome.result e c.if-outcome-eq0.true t.rail t.ticks b (t.cell ∙ to_z-of_z c.ranges.start)

pub returns-else-outcome-eq0 : goal.returns-else-outcome-eq0
returns-else-outcome-eq0 c =
    let a = c.args in
    let e = rw (to_z-of_z c.ranges.start) at c.run-outcome.ensures in
    rw (c.no_leg.ensures, c.no_leg-else-outcome-eq0.ensures, c.no_leg-else-outcome-eq0-2.ensures, c.no_leg-else-outcome-eq0-3.ensures, to_z-of_z c.ranges.start)
    (legs-none a.rail a.s a.start a.ticks c.run-outcome.result e c.if-outcome-eq0.false)
