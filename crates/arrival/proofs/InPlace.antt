-- In every tick of a run the axis is where the carriage is, the running leg moves it, and homing is not idle: the start has a plan, since the method is
-- one, and each later tick keeps homing.
-- Assumes nothing.
use Prim.Native.Nat.{ℕ, zero, suc, ◌/◌}
use native.Mathlib.Omega.{arith}
use mathlib.Core.Path.{◌≡◌, refl, sym, ap, subst, ◌∙◌}
use mathlib.Core.Bool.{Bool, true, false, cond, not, ◌&&◌, false≢true}
use mathlib.Core.Option.{Option, none, some}
use lib.Dec.{eqb}
use lib.IntN.{ℤ}
use Rattle.settings.specs.declared.Settings.{Settings}
use Rattle.settings.proofs.Within.{within}
use Rattle.checks.proofs.Numbers.{passes}
use Rattle.legs.specs.declared.events.Switches.{Switches}
use Rattle.legs.specs.Events.{View, event_counts, limit_counts}
use Rattle.legs.specs.Routes.{Row, row_of}
use Rattle.legs.specs.Numbers.{start_route, turn_route, turns_in, leg_from}
use Rattle.legs.proofs.Rows.{is_row, method-rule}
use Rattle.homing.specs.Phase.{Phase, Idle, Running, Homed, Failed}
use Rattle.homing.specs.Steps.{entered, running_of, start_in, start_of, step_of}
use Rattle.rules.specs.Axis.{Axis}
use Rattle.carriage.specs.declared.Rail.{Rail}
use Rattle.carriage.specs.Rail.{switches_at}
use Rattle.simulator.specs.Run.{started_from, started, phase_on, next_cell}
use Rattle.arrival.specs.Runs.{Place, place_after, AllInPlace}
use Rattle.arrival.proofs.Riding.{riding, view_on, rides, rides-on}
use Rattle.arrival.proofs.Settled.{settled-fresh}
use Rattle.arrival.proofs.Stages.{place-next, run_at}

abbrev Busy : Phase → Type 0
Busy p = p ≡ Idle → ⊥

homed-busy : Busy Homed
homed-busy e = let z : ◌≡◌ {A = ℕ} 0 1 = cc in omega arith

failed-busy : Busy Failed
failed-busy e = let z : ◌≡◌ {A = ℕ} 0 1 = cc in omega arith

running-busy : (n : ℕ) → Busy (Running n)
running-busy n e = let z : ◌≡◌ {A = ℕ} 0 1 = cc in omega arith

entered-busy : (n : ℕ) → Busy (entered n)
entered-busy n = go (eqb n 0)
  where
    go : (b : Bool) → Busy (cond b Homed (Running n))
    go true = homed-busy
    go false = running-busy n

step-busy : (p : Phase) (m : ℕ) (r : Rail) (x y : ℤ) → Busy p → Busy (step_of p m (view_on r x y))
unfolding running_of
step-busy Idle m r x y b = absurd (b refl)
step-busy Homed m r x y b = homed-busy
step-busy Failed m r x y b = failed-busy
step-busy (Running n) m r x y b = go (event_counts (leg_from n) v) (limit_counts (leg_from n) v) (turns_in n && not (eqb (turn_route m) 0))
  where
    v : View
    v = view_on r x y

    go : (e l t : Bool) → Busy (cond e (entered (n / 256)) (cond l (cond t (Running (turn_route m)) Failed) (Running n)))
    go true l t = entered-busy (n / 256)
    go false true true = running-busy (turn_route m)
    go false true false = failed-busy
    go false false t = running-busy n

start-busy : (m : ℕ) (w : Switches) → is_row (row_of m) ≡ true → Busy (start_of m w)
unfolding start_of
start-busy m w e = go (row_of m) e
  where
    go : (o : Option Row) → is_row o ≡ true → Busy (start_in m w o)
    go none e = absurd (false≢true e)
    go (some row) e = entered-busy (start_route m w)

module _ (r : Rail) (s : Settings) where
  later-busy : (k alarm : ℕ) (home x : ℤ) (p : Phase) → Busy p → Busy (phase_on (place_after r k (riding r s alarm home x p) x).axis)
  later-busy zero alarm home x p b = b
  later-busy (suc k) alarm home x p b =
      let a = riding r s alarm home x p in
      let y = next_cell r a x in
      let e = rides-on r s alarm home x y p in
      subst (λ (d : Axis). Busy (phase_on (place_after r k d y).axis)) (sym e) (later-busy k _ _ y _ (step-busy p s.method r x y b))

pub all-in-place : AllInPlace
all-in-place r s start ok k =
    let w = (run_at r s ok start k).at.is in
    let e = ap (started_from r start) (settled-fresh s ok) ∙ rides r s start in
    let m = method-rule s.method ∙ (within s (passes s ok).range).method in
    record {
      position = ap (λ (a : Axis). a.motion.position) w;
      switches = ap (λ (a : Axis). a.motion.switches) w;
      moves = ap (λ (p : Place). p.cell) (place-next r k (started r s start) start);
      busy =
          subst (λ (d : Axis). Busy (phase_on (place_after r k d start).axis)) (sym e)
          (later-busy r s k _ _ start _ (start-busy s.method (switches_at r start) m));
    }
