-- The run of an axis is a run of homing alone, along the legs of its method's plan: on every rail, under every method.
-- Assumes nothing.
use Prim.Native.Nat.{ℕ, zero, suc, ◌-◌}
use mathlib.Core.Path.{◌≡◌, refl, ap, ◌∙◌}
use mathlib.Core.Bool.{true}
use mathlib.Core.Option.{none}
use lib.IntN.{ℤ, ◌+ℤ◌}
use Rattle.settings.specs.declared.Settings.{Settings}
use Rattle.checks.specs.Check.{acceptable}
use Rattle.legs.specs.Legs.{Leg}
use Rattle.legs.specs.Routes.{plan_of}
use Rattle.homing.specs.Phase.{Phase, Idle, Running}
use Rattle.homing.specs.Progress.{Progress, idle, failed, homed, running, advance}
use Rattle.homing.specs.Progress as homing
use Rattle.homing.proofs.Simulation.{Same, both-idle, both-failed, both-homed, both-running, step_same, start-same}
use Rattle.reader.specs.Read.{empty_pending}
use Rattle.rules.specs.Axis.{Axis, Set}
use Rattle.carriage.specs.declared.Rail.{Rail}
use Rattle.carriage.specs.Rail.{switches_at, stride_of}
use Rattle.simulator.specs.declared.Stop.{Stop}
use Rattle.simulator.specs.declared.Stop.TheVariants as stop
use Rattle.simulator.specs.declared.Outcome.{Outcome}
use Rattle.simulator.specs.Run.{after, started_from, started, way_of, ran, one_more, ride}
use Rattle.arrival.proofs.Settled.{untouched, settled-fresh}
use Rattle.arrival.proofs.Riding.{riding, view_on, rides, rides-on}

abbrev pub stop_in : Progress → Stop
stop_in homed = stop.Homed
stop_in failed = stop.Failed
stop_in idle = stop.Ticks
stop_in (running l ls t) = stop.Ticks

-- the ticks after the start, at most n of them
abbrev pub run : Rail → ℕ → Progress → ℤ → Outcome
run r zero p x = ran 0 (stop_in p)
run r (suc n) homed x = ran 0 stop.Homed
run r (suc n) failed x = ran 0 stop.Failed
run r (suc n) idle x = one_more (run r n idle (x +ℤ way_of r none))
run r (suc n) (running l ls t) x = let y = x +ℤ stride_of r l in one_more (run r n (advance (running l ls t) (view_on r x y)) y)

-- from the start tick on
abbrev pub tried : Rail → ℕ → ℤ → ℕ → Outcome
tried r method start n = one_more (run r (n - 1) (homing.started (plan_of method (switches_at r start))) start)

module _ (r : Rail) (s : Settings) where
  -- by phase or by progress, at every stage of homing
  ride-run : (n : ℕ) {p : Phase} {q : Progress} → Same s.method p q → (alarm : ℕ) (home x : ℤ) → ride r n (riding r s alarm home x p) x ≡ run r n q x
  ride-run zero both-idle alarm home x = refl
  ride-run zero both-failed alarm home x = refl
  ride-run zero both-homed alarm home x = refl
  ride-run zero (both-running e b) alarm home x = refl
  ride-run (suc n) both-failed alarm home x = refl
  ride-run (suc n) both-homed alarm home x = refl
  ride-run (suc n) both-idle alarm home x =
      let y = x +ℤ way_of r none in
      let b = after r 0x001F y (riding r s alarm home x Idle) in
      ap (λ (d : Axis). one_more (ride r n d y)) (rides-on r s alarm home x y Idle) ∙ ap one_more (ride-run n both-idle b.motion.alarm b.motion.home y)
  ride-run (suc n) (both-running {n = i} {l} {ls} {t} e u) alarm home x =
      let y = x +ℤ stride_of r l in
      let a = riding r s alarm home x (Running i) in
      let b = after r 0x001F y a in
      ap (λ (k : Leg). one_more (ride r n (after r 0x001F (x +ℤ stride_of r k) a) (x +ℤ stride_of r k))) e.1
      ∙ ap (λ (d : Axis). one_more (ride r n d y)) (rides-on r s alarm home x y (Running i))
      ∙ ap one_more (ride-run n (step_same s.method (both-running e u) (view_on r x y)) b.motion.alarm b.motion.home y)

  pub as-tried : acceptable s ≡ true → (x : ℤ) (n : ℕ) → one_more (ride r (n - 1) (started r s x) x) ≡ tried r s.method x n
  as-tried ok x n =
      let a = started_from r x (untouched (Set s) empty_pending) in
      ap (λ (d : Axis). one_more (ride r (n - 1) (started_from r x d) x)) (settled-fresh s ok)
      ∙ ap (λ (d : Axis). one_more (ride r (n - 1) d x)) (rides r s x)
      ∙ ap one_more (ride-run (n - 1) (start-same s.method (switches_at r x)) a.motion.alarm a.motion.home x)
