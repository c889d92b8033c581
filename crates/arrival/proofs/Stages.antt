-- Where a run stands after each of its ticks: an axis that homes at the carriage's cell, at a stage of homing along its plan.
-- Assumes nothing.
use Prim.Native.Nat.{ℕ, zero, suc, ◌+◌}
use native.Mathlib.Omega.{arith}
use mathlib.Core.Path.{◌≡◌, refl, sym, ap, subst, ◌∙◌}
use mathlib.Core.Bool.{true}
use lib.IntN.{ℤ}
use Rattle.settings.specs.declared.Settings.{Settings}
use Rattle.checks.specs.Check.{acceptable}
use Rattle.legs.specs.Routes.{plan_of}
use Rattle.homing.specs.Phase.{Phase}
use Rattle.homing.specs.Progress.{Progress, advance}
use Rattle.homing.specs.Progress as homing
use Rattle.homing.proofs.Simulation.{Same, step_same, start-same}
use Rattle.rules.specs.Axis.{Axis}
use Rattle.carriage.specs.declared.Rail.{Rail}
use Rattle.carriage.specs.Rail.{switches_at}
use Rattle.simulator.specs.Run.{started_from, started, next_cell, next_axis}
use Rattle.arrival.specs.Runs.{place_after, axis_at, cell_at}
use Rattle.arrival.proofs.Settled.{settled-fresh}
use Rattle.arrival.proofs.Riding.{riding, view_on, rides, rides-on}

module _ (r : Rail) where
  pub place-add : (k j : ℕ) (a : Axis) (x : ℤ) → place_after r (k + j) a x ≡ place_after r j (place_after r k a x).axis (place_after r k a x).cell
  place-add zero j a x = let z : 0 + j ≡ j = omega arith in rw z
  place-add (suc k) j a x = let z : suc k + j ≡ suc (k + j) = omega arith in rw z (place-add k j (next_axis r a x) (next_cell r a x))

  -- one tick more
  pub place-next : (k : ℕ) (a : Axis) (x : ℤ)
      → (let p = place_after r k a x in place_after r (suc k) a x ≡ record { axis = next_axis r p.axis p.cell; cell = next_cell r p.axis p.cell })
  place-next zero a x = refl
  place-next (suc k) a x = place-next k (next_axis r a x) (next_cell r a x)

module _ (r : Rail) (s : Settings) where
  -- an axis that homes at a cell, at a stage
  pub record At (a : Axis) (x : ℤ) (q : Progress) : Type 0 where
    pub alarm : ℕ
    pub home : ℤ
    pub phase : Phase
    pub is : a ≡ riding r s alarm home x phase
    pub same : Same s.method phase q

  next-at : (a : Axis) (x : ℤ) (q : Progress) → At a x q → At (next_axis r a x) (next_cell r a x) (advance q (view_on r x (next_cell r a x)))
  next-at a x q k = subst (λ (b : Axis). At (next_axis r b x) (next_cell r b x) (advance q (view_on r x (next_cell r b x)))) (sym k.is) from
    where
      b : Axis
      b = riding r s k.alarm k.home x k.phase

      from : At (next_axis r b x) (next_cell r b x) (advance q (view_on r x (next_cell r b x)))
      from =
          record {
            alarm = (next_axis r b x).motion.alarm;
            home = (next_axis r b x).motion.home;
            phase = _;
            is = rides-on r s k.alarm k.home x (next_cell r b x) k.phase;
            same = step_same s.method k.same (view_on r x (next_cell r b x));
          }

  -- some stage
  pub record Somewhere (a : Axis) (x : ℤ) : Type 0 where
    pub stage : Progress
    pub at : At a x stage

  later-at : (k : ℕ) (a : Axis) (x : ℤ) → Somewhere a x → (let p = place_after r k a x in Somewhere p.axis p.cell)
  later-at zero a x w = w
  later-at (suc k) a x w = later-at k (next_axis r a x) (next_cell r a x) (record { stage = _; at = next-at a x w.stage w.at })

  module _ (ok : acceptable s ≡ true) (start : ℤ) where
    pub start-at : At (started r s start) start (homing.started (plan_of s.method (switches_at r start)))
    start-at =
        record {
          alarm = _;
          home = _;
          phase = _;
          is = ap (started_from r start) (settled-fresh s ok) ∙ rides r s start;
          same = start-same s.method (switches_at r start);
        }

    pub run_at : (k : ℕ) → Somewhere (axis_at r s start k) (cell_at r s start k)
    run_at k = later-at k (started r s start) start (record { stage = _; at = start-at })
