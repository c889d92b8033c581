-- A stretch is a leg that runs, and four are the whole run. A stretch that does not use up the ticks leads to a stage with fewer legs to come, and a
-- start has four at most: computed over the table. A stage with none to come has stopped.
-- Assumes nothing.
use Prim.Native.Nat.{ℕ, zero, suc, ◌+◌, ◌-◌, ◌/◌, ◌≤◌, ◌<◌, max}
use native.Mathlib.Omega.{arith}
use mathlib.Core.Path.{◌≡◌, refl, sym, ap, subst, ◌∙◌}
use mathlib.Core.Logic.{◌⊎◌, inl, inr, ⊎_elim}
use mathlib.Core.Bool.{Bool, true, false, cond, true≢false, false≢true}
use mathlib.Core.List.{List, [], ◌∷◌}
use mathlib.Core.Option.{Option, none, some}
use lib.Dec.{leb}
use lib.IntN.{ℤ}
use lib.ListN.{length}
use borrow.Author.Tests.{leb-true}
use Rattle.settings.specs.declared.Settings.{Settings}
use Rattle.checks.specs.Check.{acceptable}
use Rattle.checks.proofs.Numbers.{accepts}
use Rattle.legs.specs.declared.events.Switches.{Switches}
use Rattle.legs.specs.Legs.{Leg}
use Rattle.legs.specs.Events.{View, event_counts, limit_counts}
use Rattle.legs.specs.Routes.{Row, table, row_of, plan_by, plan_in, plan_of}
use Rattle.legs.proofs.Rows.{found-same}
use Rattle.homing.specs.Phase.{Phase, Idle, Running, Homed, Failed}
use Rattle.homing.specs.Progress.{Progress, idle, failed, homed, running, begin, on_limit, advance, begun}
use Rattle.homing.specs.Progress as homing
use Rattle.homing.specs.Steps.{entered, limit_at, running_of, step_of}
use Rattle.homing.proofs.Simulation.{Same, both-idle, both-failed, both-homed, both-running, step_same}
use Rattle.rules.specs.Axis.{Axis}
use Rattle.carriage.specs.declared.Rail.{Rail}
use Rattle.carriage.specs.Rail.{switches_at}
use Rattle.simulator.specs.declared.Outcome.{Outcome}
use Rattle.simulator.specs.Run.{started, phase_on, next_cell, next_axis, stopped, ride, run_of}
use Rattle.simulator.specs.Stretch.{goes_on, Stretch, here, tick_more, stretch_in, stretch_of}
use Rattle.simulator.specs.Trace.{route_in, leg_of}
use Rattle.simulator.proofs.Phases.{same-goes, goes-alike}
use Rattle.simulator.proofs.Runs.{ridden-to, admits}
use Rattle.simulator.proofs.Stretches.{rides-on, run-stopped, not-begun}
use Rattle.simulator.proofs.Traces.{legs-run}
use Rattle.arrival.specs.Runs.{Place, place_after, axis_at}
use Rattle.arrival.specs.Legs.{LegRuns, Whole, AllFollowed}
use Rattle.arrival.proofs.Regions.{legs_in}
use Rattle.arrival.proofs.Riding as riding
use Rattle.arrival.proofs.Runs.{all-step}
use Rattle.arrival.proofs.Stages.{place-add, At, start-at}
use Rattle.arrival.proofs.InPlace.{all-in-place}

-- the legs that may still run, the running one included; idle homing, where no acceptable settings lead, counts as one
abbrev to_come : Progress → ℕ
to_come idle = 1
to_come failed = 0
to_come homed = 0
to_come (running l ls t) = suc (max (length ls) (legs_in t))

begin-to_come : (ls : List Leg) → to_come (begin ls none) ≤ length ls
begin-to_come [] = omega arith
begin-to_come (l ∷ ls) = omega arith

limit-to_come : (t : Option (List Leg)) → to_come (on_limit t) ≤ legs_in t
limit-to_come none = omega arith
limit-to_come (some ls) = begin-to_come ls

-- a stage is as it was, or fewer legs are to come
abbrev Onward : Phase → Progress → Phase → Progress → Type 0
Onward p q p' q' = (p' ≡ p) ⊎ (to_come q' < to_come q)

step-onward : (m : ℕ) {p : Phase} {q : Progress} → Same m p q → (r : Rail) (x y : ℤ)
    → (let v = riding.view_on r x y in Onward p q (step_of p m v) (advance q v) × (to_come (advance q v) ≤ to_come q))
unfolding advance running_of
step-onward m both-idle r x y = (inl refl, omega arith)
step-onward m both-failed r x y = (inl refl, omega arith)
step-onward m both-homed r x y = (inl refl, omega arith)
step-onward m (both-running {n = n} {l} {ls} {t} e u) r x y = rw e.1 (go (event_counts l v) (limit_counts l v))
  where
    v : View
    v = riding.view_on r x y

    go : (c k : Bool)
        → (let q = cond c (begin ls none) (cond k (on_limit t) (running l ls t)) in Onward (Running n) (running l ls t) (cond c (entered (n / 256)) (cond k (limit_at m n) (Running n))) q × (to_come q ≤ suc (max (length ls) (legs_in t))))
    go true k = let h = begin-to_come ls in (inr (omega arith), omega arith)
    go false true = let h = limit-to_come t in (inr (omega arith), omega arith)
    go false false = (inl refl, omega arith)

stopped_none : {m : ℕ} {p : Phase} {q : Progress} → Same m p q → stopped p ≡ true → to_come q ≡ 0
stopped_none both-idle e = absurd (false≢true e)
stopped_none both-failed e = refl
stopped_none both-homed e = refl
stopped_none (both-running s b) e = absurd (false≢true e)

none-stopped : {m : ℕ} {p : Phase} {q : Progress} → Same m p q → to_come q ≤ 0 → stopped p ≡ true
none-stopped both-idle h = absurd (omega arith)
none-stopped both-failed h = refl
none-stopped both-homed h = refl
none-stopped (both-running s b) h = absurd (omega arith)

module _ (r : Rail) (s : Settings) where
  -- where a stretch leads from a stage, given n ticks, for as long as the phase is p
  record Ends (p : Phase) (n : ℕ) (t : Stretch) (p₀ : Phase) (q : Progress) : Type 0 where
    stage : Progress
    at : At r s t.axis t.cell stage
    ended : (n - t.ticks ≡ 0) ⊎ (goes_on p (phase_on t.axis) ≡ false)
    onward : Onward p₀ q (phase_on t.axis) stage
    fewer : to_come stage ≤ to_come q

  at_once : (p : Phase) (n alarm : ℕ) (home x : ℤ) {p₀ : Phase} {q : Progress} → Same s.method p₀ q → (n ≡ 0) ⊎ (goes_on p p₀ ≡ false)
      → Ends p n (here (riding.riding r s alarm home x p₀) x) p₀ q
  at_once p n alarm home x {p₀} {q} k d =
      record {
        stage = q;
        at = record { alarm = alarm; home = home; phase = p₀; is = refl; same = k };
        ended = ⊎_elim (λ z. inl (omega arith)) inr d;
        onward = inl refl;
        fewer = omega arith;
      }

  -- after a tick before
  tick-more : {p : Phase} {n : ℕ} {t : Stretch} {p₀ p₁ : Phase} {q q₁ : Progress} → Onward p₀ q p₁ q₁ → to_come q₁ ≤ to_come q → Ends p n t p₁ q₁
      → Ends p (suc n) (tick_more t) p₀ q
  tick-more {t = t} o f i =
      record {
        stage = i.stage;
        at = i.at;
        ended = ⊎_elim (λ z. inl (omega arith)) inr i.ended;
        onward = ⊎_elim (λ e. ⊎_elim (λ g. inl (e ∙ g)) (λ g. let h = i.fewer in inr (omega arith)) o) (λ h. inr (omega arith)) i.onward;
        fewer = let h = i.fewer in omega arith;
      }

  ends : (p : Phase) (n alarm : ℕ) (home x : ℤ) {p₀ : Phase} {q : Progress} → Same s.method p₀ q
      → (let a = riding.riding r s alarm home x p₀ in Ends p n (stretch_in p r n a x) p₀ q)
  ends p zero alarm home x k = at_once p zero alarm home x k (inl refl)
  ends p (suc n) alarm home x {p₀} {q} k =
      let a = riding.riding r s alarm home x p₀ in
      let y = next_cell r a x in
      let v = riding.view_on r x y in
      let e = riding.rides-on r s alarm home x y p₀ in
      let o = step-onward s.method k r x y in
      let i = subst (λ (b : Axis). Ends p n (stretch_in p r n b y) (step_of p₀ s.method v) (advance q v)) (sym e) (ends p n _ _ y (step_same s.method k v)) in
      go (goes_on p p₀) refl (stretch_in p r n (next_axis r a x) y) (tick-more o.0 o.1 i)
    where
      go : (b : Bool) → goes_on p p₀ ≡ b → (t : Stretch) → Ends p (suc n) (tick_more t) p₀ q
          → Ends p (suc n) (cond b (tick_more t) (here (riding.riding r s alarm home x p₀) x)) p₀ q
      go true g t i = i
      go false g t i = at_once p (suc n) alarm home x k (inr g)

  -- n ticks are left at a stage, or few legs to come
  record Left (n : ℕ) (a : Axis) (x : ℤ) (legs : ℕ) : Type 0 where
    stage : Progress
    at : At r s a x stage
    few : (n ≡ 0) ⊎ (to_come stage ≤ legs)

  -- a stretch uses the ticks up, or a leg
  shrinks : (n : ℕ) (a : Axis) (x : ℤ) (legs : ℕ) → Left n a x (suc legs) → (let t = stretch_of r n a x in Left (n - t.ticks) t.axis t.cell legs)
  shrinks n a x legs l = subst (λ (b : Axis). let t = stretch_of r n b x in Left (n - t.ticks) t.axis t.cell legs) (sym k.is) from
    where
      k : At r s a x l.stage
      k = l.at

      b : Axis
      b = riding.riding r s k.alarm k.home x k.phase

      t : Stretch
      t = stretch_of r n b x

      i : Ends k.phase n t k.phase l.stage
      i = ends k.phase n k.alarm k.home x k.same

      -- a phase that does not go on with itself has stopped
      still : (p : Phase) → goes_on p p ≡ false → stopped p ≡ true
      still Idle e = absurd (true≢false e)
      still (Running m) e = absurd (true≢false (sym (same-goes (Running m) refl) ∙ e))
      still Homed e = refl
      still Failed e = refl

      by-leg : to_come l.stage ≤ suc legs → goes_on k.phase (phase_on t.axis) ≡ false → to_come i.stage ≤ legs
      by-leg h g =
          ⊎_elim
          (λ e. let z = stopped_none i.at.same (ap stopped (sym (ap phase_on i.at.is)) ∙ ap stopped e ∙ still k.phase (sym (ap (goes_on k.phase) e) ∙ g)) in omega arith)
          (λ e. omega arith)
          i.onward

      from : Left (n - t.ticks) t.axis t.cell legs
      from =
          record {
            stage = i.stage;
            at = i.at;
            few =
                ⊎_elim
                (λ z. inl (omega arith))
                (λ h. ⊎_elim inl (λ g. inr (by-leg h g)) i.ended)
                l.few;
          }

  -- with no leg to come, or no ticks, the run is over
  over : (n : ℕ) (a : Axis) (x : ℤ) → Left n a x 0 → (ride r n a x).ticks ≡ 0
  over n a x l =
      ⊎_elim
      (λ z. ap (λ (m : ℕ). (ride r m a x).ticks) z)
      (λ h. stops (ap stopped (ap phase_on l.at.is) ∙ none-stopped l.at.same h))
      l.few
    where
      stops : stopped (phase_on a) ≡ true → (ride r n a x).ticks ≡ 0
      stops e = let q = ap (λ (o : Outcome). o.ticks) (run-stopped r n 0 a x e) in omega arith

  -- four stretches
  four : (n : ℕ) (a : Axis) (x : ℤ) → Left n a x 4
      → (let t1 = stretch_of r n a x in let n1 = n - t1.ticks in
      let t2 = stretch_of r n1 t1.axis t1.cell in let n2 = n1 - t2.ticks in
      let t3 = stretch_of r n2 t2.axis t2.cell in let n3 = n2 - t3.ticks in
      let t4 = stretch_of r n3 t3.axis t3.cell in
      (ride r n a x).ticks ≡ t1.ticks + t2.ticks + t3.ticks + t4.ticks)
  four n a x l =
      let t1 = stretch_of r n a x in
      let n1 = n - t1.ticks in
      let t2 = stretch_of r n1 t1.axis t1.cell in
      let n2 = n1 - t2.ticks in
      let t3 = stretch_of r n2 t2.axis t2.cell in
      let n3 = n2 - t3.ticks in
      let t4 = stretch_of r n3 t3.axis t3.cell in
      let l1 = shrinks n a x 3 l in
      let l2 = shrinks n1 t1.axis t1.cell 2 l1 in
      let l3 = shrinks n2 t2.axis t2.cell 1 l2 in
      let l4 = shrinks n3 t3.axis t3.cell 0 l3 in
      let e1 = counted n a x in
      let e2 = counted n1 t1.axis t1.cell in
      let e3 = counted n2 t2.axis t2.cell in
      let e4 = counted n3 t3.axis t3.cell in
      let z = over (n3 - t4.ticks) t4.axis t4.cell l4 in
      omega (arith, e1, e2, e3, e4, z)
    where
      counted : (n : ℕ) (a : Axis) (x : ℤ) → (let t = stretch_of r n a x in (ride r n a x).ticks ≡ t.ticks + (ride r (n - t.ticks) t.axis t.cell).ticks)
      counted n a x = ap (λ (o : Outcome). o.ticks) (rides-on r (phase_on a) n a x)

  -- where a stretch leads is where its ticks do
  led : (p : Phase) (n : ℕ) (a : Axis) (x : ℤ) → (let t = stretch_in p r n a x in place_after r t.ticks a x ≡ record { axis = t.axis; cell = t.cell })
  led p zero a x = refl
  led p (suc n) a x = go (goes_on p (phase_on a)) (stretch_in p r n (next_axis r a x) (next_cell r a x)) (led p n (next_axis r a x) (next_cell r a x))
    where
      go : (b : Bool) (t : Stretch) → place_after r t.ticks (next_axis r a x) (next_cell r a x) ≡ record { axis = t.axis; cell = t.cell }
          → (let u = cond b (tick_more t) (here a x) in place_after r u.ticks a x ≡ record { axis = u.axis; cell = u.cell })
      go true t e = let z : t.ticks + 1 ≡ suc t.ticks = omega arith in rw z e
      go false t e = refl

  -- in the ticks of a stretch the phase is the one that it began in
  runs-in : (p : Phase) (n : ℕ) (a : Axis) (x : ℤ) (k : ℕ) → k < (stretch_in p r n a x).ticks → phase_on (place_after r k a x).axis ≡ p
  runs-in p zero a x k h = absurd (omega arith)
  runs-in p (suc n) a x k h = go (goes_on p (phase_on a)) refl (stretch_in p r n (next_axis r a x) (next_cell r a x)) (runs-in p n (next_axis r a x) (next_cell r a x)) k h
    where
      go : (b : Bool) → goes_on p (phase_on a) ≡ b → (t : Stretch)
          → ((j : ℕ) → j < t.ticks → phase_on (place_after r j (next_axis r a x) (next_cell r a x)).axis ≡ p)
          → (j : ℕ) → j < (cond b (tick_more t) (here a x)).ticks → phase_on (place_after r j a x).axis ≡ p
      go false g t i j h = absurd (omega arith)
      go true g t i zero h = goes-alike p (phase_on a) g
      go true g t i (suc j) h = i j (omega arith)

  -- one stretch more
  led_on : (k n : ℕ) (a b : Axis) (x y : ℤ) → place_after r k a x ≡ record { axis = b; cell = y }
      → (let t = stretch_of r n b y in place_after r (k + t.ticks) a x ≡ record { axis = t.axis; cell = t.cell })
  led_on k n a b x y e = place-add r k (stretch_of r n b y).ticks a x ∙ rw e (led (phase_on b) n b y)

-- a start has four legs to come at most
plan-few : (m : ℕ) (row : Row) → row_of m ≡ some row → (b : Bool) → to_come (begun (plan_by b row)) ≤ 4
unfolding row_of
plan-few m row e true = leb-true (to_come (begun (plan_by true row))) 4 (found-same (λ n x. leb (to_come (begun (plan_by true x))) 4) (λ n x. true) m row table refl e)
plan-few m row e false = leb-true (to_come (begun (plan_by false row))) 4 (found-same (λ n x. leb (to_come (begun (plan_by false x))) 4) (λ n x. true) m row table refl e)

start-few : (m : ℕ) (w : Switches) → to_come (homing.started (plan_of m w)) ≤ 4
start-few m w = go (row_of m) refl
  where
    go : (o : Option Row) → row_of m ≡ o → to_come (homing.started (plan_in w o)) ≤ 4
    go none e = omega arith
    go (some row) e = plan-few m row e (row.picks w)

-- a leg of a trace, by its stretch
module _ (r : Rail) (s : Settings) (start : ℤ) (ok : acceptable s ≡ true) where
  -- a phase that goes on, and is not idle, is a running leg
  leg-runs : (p : Phase) → (p ≡ Idle → ⊥) → stopped p ≡ false → p ≡ Running (route_in p)
  leg-runs Idle b e = absurd (b refl)
  leg-runs (Running n) b e = refl
  leg-runs Homed b e = absurd (true≢false e)
  leg-runs Failed b e = absurd (true≢false e)

  leg-told : (before n : ℕ) (a : Axis) (x : ℤ) → place_after r before (started r s start) start ≡ record { axis = a; cell = x } → LegRuns r s start before (leg_of a (stretch_of r n a x))
  leg-told before n a x e =
      record {
        runs = λ k h. ap phase_on (moved k) ∙ runs-in r s (phase_on a) n a x k h ∙ leg-runs (phase_on a) busy (unstopped h);
        cell = sym (ap (λ (p : Place). p.cell) (led_on r s before n (started r s start) a start x e));
      }
    where
      moved : (k : ℕ) → axis_at r s start (before + k) ≡ (place_after r k a x).axis
      moved k = ap (λ (p : Place). p.axis) (place-add r before k (started r s start) start) ∙ ap (λ (p : Place). (place_after r k p.axis p.cell).axis) e

      busy : phase_on a ≡ Idle → ⊥
      busy z = (all-in-place r s start ok before).busy (ap (λ (p : Place). phase_on p.axis) e ∙ z)

      -- a stretch with a tick began in a phase that goes on
      unstopped : {k : ℕ} → k < (stretch_of r n a x).ticks → stopped (phase_on a) ≡ false
      unstopped h = go (stopped (phase_on a)) refl
        where
          go : (b : Bool) → stopped (phase_on a) ≡ b → stopped (phase_on a) ≡ false
          go false q = q
          go true q = let z = ap (λ (t : Stretch). t.ticks) (not-begun r n a x q) in absurd (omega arith)

pub all-followed : AllFollowed
all-followed r s start n f ok =
    let o = run_of r s start n in
    let a = started r s start in
    let l : Left r s (n - 1) a start 4 = record { stage = _; at = start-at r s ok start; few = inr (start-few s.method (switches_at r start)) } in
    let c = ap (λ (q : Outcome). q.ticks) (ridden-to r s start n (ride r (n - 1) a start) (admits r s start n f ((accepts s).1 ok)) refl) in
    let t1 = stretch_of r (n - 1) a start in
    let n1 = n - 1 - t1.ticks in
    let t2 = stretch_of r n1 t1.axis t1.cell in
    let n2 = n1 - t2.ticks in
    let t3 = stretch_of r n2 t2.axis t2.cell in
    let p1 = led r s (phase_on a) (n - 1) a start in
    let p2 = led_on r s t1.ticks n1 a t1.axis start t1.cell p1 in
    let p3 = led_on r s (t1.ticks + t2.ticks) n2 a t2.axis start t2.cell p2 in
    subst (Whole r s start o) (legs-run r s start n o refl (all-step r s start n f ok).number refl refl refl refl)
    (record {
      outcome = refl;
      first = leg-told r s start ok 0 (n - 1) a start refl;
      second = leg-told r s start ok t1.ticks n1 t1.axis t1.cell p1;
      third = leg-told r s start ok (t1.ticks + t2.ticks) n2 t2.axis t2.cell p2;
      fourth = leg-told r s start ok (t1.ticks + t2.ticks + t3.ticks) (n2 - t3.ticks) t3.axis t3.cell p3;
      ticks = omega (arith, c, four r s (n - 1) a start l);
    })
