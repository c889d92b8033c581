-- What every run is: by cases of its number, and by induction on its ticks.
-- Assumes nothing.
use Rattle.std.specs.Prelude.{Err, Ok}
use Prim.Native.Nat.{ℕ, zero, suc, ◌+◌, ◌-◌, ◌≤◌, ◌<◌}
use native.Mathlib.Omega.{arith}
use mathlib.Core.Path.{◌≡◌, refl, subst, ◌∙◌}
use mathlib.Core.Bool.{Bool, true, false, cond, not, false≢true}
use lib.IntN.{ℤ}
use Rattle.settings.specs.declared.Settings.{Settings}
use Rattle.settings.specs.Refusal.{verdict_number, first_of, Verdict}
use Rattle.checks.specs.Cases as checks
use Rattle.checks.proofs.Numbers.{check-number, accepts}
use Rattle.homing.specs.Phase.{Phase, Idle, Running, Homed, Failed}
use Rattle.control.specs.Control.{control_command_of}
use Rattle.drive.specs.Transitions.{next_state}
use Rattle.ticks.specs.After.{new_phase}
use Rattle.answers.specs.Answer.{answered_in}
use Rattle.rules.specs.Axis.{Axis}
use Rattle.rules.specs.Tick.{tick_of}
use Rattle.carriage.specs.declared.Rail.{Rail}
use Rattle.carriage.specs.Rail.{rail_fits}
use Rattle.carriage.proofs.Fitting.{fitting}
use Rattle.simulator.specs.declared.Stop.TheVariants as stop
use Rattle.simulator.specs.declared.Outcome.{Outcome}
use Rattle.simulator.specs.Run.{started, phase_on, next_cell, next_axis, stopped, stop_of, ran, one_more, ride, judged_by, judged, ran_under, run_of}
use Rattle.simulator.proofs.Settled.{third-verdict}
use Rattle.simulator.proofs.Runs.{ridden-to, admits}
use Rattle.arrival.specs.Runs.{Numbers, AsByTheWriter, AllBegin, place_after, Steps, AllStep, NotRun, AllRefused}
use Rattle.arrival.proofs.Settled.{settled-fresh}

module _ (r : Rail) (s : Settings) (start : ℤ) (n : ℕ) where
  run-number : (run_of r s start n).number ≡ verdict_number (judged r s start n)
  unfolding run_of
  run-number = go (judged r s start n)
    where
      go : (v : Verdict) → (ran_under v r s start n).number ≡ verdict_number v
      go (Ok tt) = refl
      go (Err q) = refl

pub numbers : Numbers
numbers r s start n = run-number r s start n ∙ go (rail_fits r start n)
  where
    go : (b : Bool) → verdict_number (judged_by b s) ≡ cond (not b) 12 (first_of (checks.tests_of s))
    go true = check-number s
    go false = refl

pub as-by-the-writer : AsByTheWriter
as-by-the-writer r s start n buffer f h = run-number r s start n ∙ rw (f, third-verdict s buffer h)

pub all-begin : AllBegin
unfolding tick_of answered_in next_state control_command_of new_phase
all-begin r s start ok =
    let e = settled-fresh s ok in
    record { fresh = e; state = rw e; mode = rw e; idle = rw e; starts = rw e }

pub all-refused : AllRefused
unfolding run_of
all-refused r s start n = go (judged r s start n)
  where
    go : (v : Verdict) → ((ran_under v r s start n).number ≡ 0 → ⊥) → NotRun (ran_under v r s start n)
    go (Err q) h = record { ticks = refl; stop = refl }
    go (Ok tt) h = absurd (h refl)

-- a phase that stops a run is not told as the number of ticks
told : (p : Phase) → stopped p ≡ true → stop_of p ≡ stop.Ticks → ⊥
told Homed e q = let z : ◌≡◌ {A = ℕ} 0 1 = cc in omega arith
told Failed e q = let z : ◌≡◌ {A = ℕ} 0 1 = cc in omega arith
told Idle e q = false≢true e
told (Running i) e q = false≢true e

-- the later ticks of a run
record Ridden (r : Rail) (n : ℕ) (a : Axis) (x : ℤ) (o : Outcome) : Type 0 where
  number : o.number ≡ 0
  most : o.ticks ≤ n
  before : (k : ℕ) → k < o.ticks → stopped (phase_on (place_after r k a x).axis) ≡ false
  out : o.stop ≡ stop.Ticks → o.ticks ≡ n
  stop : o.stop ≡ stop_of (phase_on (place_after r o.ticks a x).axis)

ridden : (r : Rail) (n : ℕ) (a : Axis) (x : ℤ) → Ridden r n a x (ride r n a x)
ridden r zero a x = record { number = refl; most = omega arith; before = λ k h. absurd (omega arith); out = λ e. refl; stop = refl }
ridden r (suc n) a x = go (stopped (phase_on a)) refl (ride r n (next_axis r a x) (next_cell r a x)) (ridden r n (next_axis r a x) (next_cell r a x))
  where
    one_less : (o : Outcome) → stopped (phase_on a) ≡ false → Ridden r n (next_axis r a x) (next_cell r a x) o
        → (k : ℕ) → k < o.ticks + 1 → stopped (phase_on (place_after r k a x).axis) ≡ false
    one_less o e i zero h = e
    one_less o e i (suc k) h = i.before k (omega arith)

    go : (b : Bool) → stopped (phase_on a) ≡ b → (o : Outcome) → Ridden r n (next_axis r a x) (next_cell r a x) o
        → Ridden r (suc n) a x (cond b (ran 0 (stop_of (phase_on a))) (one_more o))
    go true e o i = record { number = refl; most = omega arith; before = λ k h. absurd (omega arith); out = λ q. absurd (told (phase_on a) e q); stop = refl }
    go false e o i =
        let z : o.ticks + 1 ≡ suc o.ticks = omega arith in
        record {
          number = refl;
          most = omega (arith, i.most);
          before = one_less o e i;
          out = λ q. let m = i.out q in omega arith;
          stop = rw z i.stop;
        }

pub all-step : AllStep
all-step r s start n f ok =
    let o = ride r (n - 1) (started r s start) start in
    let i = ridden r (n - 1) (started r s start) start in
    let least = (fitting r start n f).ticks.least in
    let z : o.ticks + 1 - 1 ≡ o.ticks = omega arith in
    subst (Steps r s start n) (ridden-to r s start n o (admits r s start n f ((accepts s).1 ok)) refl)
    (record {
      number = refl;
      least = omega arith;
      most = omega (arith, i.most, least);
      out = λ q. let m = i.out q in omega (arith, m, least);
      before = λ k h. i.before k (omega arith);
      stop = rw z i.stop;
    })
