-- Laws of a run and of a stretch for their loops: a tick more, a stretch more, the end, and how far the carriage goes.
-- Assumes nothing.
use Prim.Native.Nat.{ℕ, zero, suc, ◌+◌, ◌-◌, ◌*◌, ◌^◌, ◌≤◌, ◌<◌}
use native.Mathlib.Omega.{arith}
use mathlib.Core.Path.{◌≡◌, refl, ap, ◌∙◌}
use mathlib.Core.Bool.{Bool, true, false, cond}
use mathlib.Core.Option.{Option, none, some}
use lib.IntN.{ℤ, pos, neg_ℤ, ◌+ℤ◌}
use lib.Signed.{mag}
use Rattle.counts.proofs.Integers.{mag-add, mag-neg-pos}
use Rattle.legs.specs.Legs.{Leg}
use Rattle.homing.specs.Phase.{Phase}
use Rattle.homing.specs.Moving.{running_leg}
use Rattle.rules.specs.Axis.{Axis}
use Rattle.carriage.specs.declared.Rail.{Rail}
use Rattle.carriage.specs.Rail.{cells_of, stride_of}
use Rattle.simulator.specs.declared.Outcome.{Outcome}
use Rattle.simulator.specs.Run.{phase_on, way_of, next_cell, next_axis, stopped, stop_of, ran, one_more, ride}
use mir.Syntax.{w64}
use mir.Val.{SFits}
use Rattle.simulator.specs.Stretch.{StaysNear, goes_on, Stretch, here, tick_more, stretch_in, stretch_of}
use Rattle.simulator.proofs.Phases.{same-goes, goes-unstopped, stopped-stays}

abbrev pub led_to : ℕ → ℤ → Axis → Stretch
led_to ticks cell axis = record { ticks = ticks; cell = cell; axis = axis }

-- after d ticks before
abbrev pub further : ℕ → Stretch → Stretch
further d t = led_to (d + t.ticks) t.cell t.axis

abbrev pub later : ℕ → Outcome → Outcome
later d o = ran (d + o.ticks) o.stop

-- a stretch, tick by tick
module _ (p : Phase) (r : Rail) (a : Axis) (x : ℤ) where
  pub one-tick : (n k : ℕ) → 0 < k → k ≤ n → goes_on p (phase_on a) ≡ true
      → further (n - k) (stretch_in p r k a x) ≡ further (n - (k - 1)) (stretch_in p r (k - 1) (next_axis r a x) (next_cell r a x))
  one-tick n k l h g =
      let t = stretch_in p r (k - 1) (next_axis r a x) (next_cell r a x) in
      let e : k ≡ suc (k - 1) = omega arith in
      let at : further (n - k) (stretch_in p r (suc (k - 1)) a x) ≡ further (n - (k - 1)) t = rw g (ap (λ (m : ℕ). led_to m t.cell t.axis) (omega arith)) in
      ap (λ (m : ℕ). further (n - k) (stretch_in p r m a x)) e ∙ at

  pub given_out : (k d : ℕ) → k ≡ 0 → further d (stretch_in p r k a x) ≡ led_to d x a
  given_out k d e = let z : d + 0 ≡ d = omega arith in rw (e, z)

  pub left-off : (k d : ℕ) → goes_on p (phase_on a) ≡ false → further d (stretch_in p r k a x) ≡ led_to d x a
  left-off zero d g = given_out zero d refl
  left-off (suc k) d g = let z : d + 0 ≡ d = omega arith in rw (g, z)

-- by the phase at its start
pub begun : {p : Phase} {t : Stretch} (r : Rail) (n : ℕ) (a : Axis) (x : ℤ) → phase_on a ≡ p → stretch_in p r n a x ≡ t → stretch_of r n a x ≡ t
begun r n a x e q = ap (λ (p : Phase). stretch_in p r n a x) e ∙ q

pub not-begun : (r : Rail) (n : ℕ) (a : Axis) (x : ℤ) → stopped (phase_on a) ≡ true → stretch_of r n a x ≡ led_to 0 x a
not-begun r zero a x s = refl
not-begun r (suc n) a x s = rw (stopped-stays (phase_on a) (phase_on a) s)

-- how far: less than 2 ^ 21 a tick
module _ (r : Rail) (fast : r.fast ≤ 2 ^ 20) (slow : r.slow ≤ 2 ^ 20) where
  cells-small : (b : Bool) → cond b r.fast r.slow ≤ 2 ^ 20
  cells-small true = fast
  cells-small false = slow

  pub way-small : (o : Option Leg) → mag (way_of r o) ≤ 2 ^ 20
  unfolding stride_of
  way-small none = omega arith
  way-small (some l) = go l.forward (cells_of r l) (cells-small l.fast)
    where
      go : (b : Bool) (n : ℕ) → n ≤ 2 ^ 20 → mag (cond b (pos n) (neg_ℤ (pos n))) ≤ 2 ^ 20
      go true n h = h
      go false n h = omega (arith, mag-neg-pos n)

  pub tick-near : (o : Option Leg) (x : ℤ) → mag (x +ℤ way_of r o) < mag x + 2 ^ 21
  tick-near o x = mag-add x (way_of r o) (mag x + 2 ^ 21) (omega (arith, way-small o))

-- a trip that stays near does so after a tick, and its cell fits 64 bits
module _ {r : Rail} {n : ℕ} {x : ℤ} (h : StaysNear r n x) (l : 0 < n) (o : Option Leg) where
  pub move-fits : SFits w64 (x +ℤ way_of r o)
  move-fits = record { sfits = mag-add x (way_of r o) (2 ^ 63) (omega (arith, way-small r h.fast h.slow o, h.near)) }

  pub move-near : StaysNear r (n - 1) (x +ℤ way_of r o)
  move-near = record { fast = h.fast; slow = h.slow; near = omega (arith, tick-near r h.fast h.slow o x, h.near) }

-- a run, stretch by stretch
as-ran : (r : Rail) (n : ℕ) (a : Axis) (x : ℤ) → ride r n a x ≡ later 0 (ride r n a x)
as-ran r zero a x = refl
as-ran r (suc n) a x = go (stopped (phase_on a)) (ride r n (next_axis r a x) (next_cell r a x))
  where
    go : (b : Bool) (q : Outcome) → (let o = cond b (ran 0 (stop_of (phase_on a))) (one_more q) in o ≡ later 0 o)
    go true q = refl
    go false q = let e : q.ticks + 1 ≡ 0 + (q.ticks + 1) = omega arith in ap (λ (m : ℕ). ran m q.stop) e

pub stays_here : (r : Rail) (n : ℕ) (a : Axis) (x : ℤ) → ride r n a x ≡ later 0 (ride r (n - 0) a x)
stays_here r n a x = let e : n - 0 ≡ n = omega arith in rw e (as-ran r n a x)

module _ (r : Rail) (p : Phase) where
  -- what a run comes to after a stretch
  abbrev After : ℕ → Axis → ℤ → Type 0
  After n a x = let t = stretch_in p r n a x in ride r n a x ≡ later t.ticks (ride r (n - t.ticks) t.axis t.cell)

  pub rides-on : (n : ℕ) (a : Axis) (x : ℤ) → After n a x
  rides-on zero a x = stays_here r zero a x
  rides-on (suc n) a x = go (goes_on p (phase_on a)) refl (rides-on n (next_axis r a x) (next_cell r a x))
    where
      go : (b : Bool) → goes_on p (phase_on a) ≡ b → After n (next_axis r a x) (next_cell r a x)
          → (let t = cond b (tick_more (stretch_in p r n (next_axis r a x) (next_cell r a x))) (here a x) in ride r (suc n) a x ≡ later t.ticks (ride r (suc n - t.ticks) t.axis t.cell))
      go false g i = stays_here r (suc n) a x
      go true g i =
          let t = stretch_in p r n (next_axis r a x) (next_cell r a x) in
          let q = ride r (n - t.ticks) t.axis t.cell in
          let e : suc n - (t.ticks + 1) ≡ n - t.ticks = omega arith in
          let z : t.ticks + q.ticks + 1 ≡ t.ticks + 1 + q.ticks = omega arith in
          rw (goes-unstopped p (phase_on a) g, e) (ap one_more i ∙ ap (λ (m : ℕ). ran m q.stop) z)

  pub few-ticks : (n : ℕ) (a : Axis) (x : ℤ) → (stretch_in p r n a x).ticks ≤ n
  few-ticks zero a x = omega arith
  few-ticks (suc n) a x = go (goes_on p (phase_on a)) (stretch_in p r n (next_axis r a x) (next_cell r a x)) (few-ticks n (next_axis r a x) (next_cell r a x))
    where
      go : (b : Bool) (t : Stretch) → t.ticks ≤ n → (cond b (tick_more t) (here a x)).ticks ≤ suc n
      go true t h = omega arith
      go false t h = omega arith

  pub stretch-near : r.fast ≤ 2 ^ 20 → r.slow ≤ 2 ^ 20 → (n : ℕ) (a : Axis) (x : ℤ) → (let t = stretch_in p r n a x in mag t.cell ≤ mag x + t.ticks * 2 ^ 21)
  stretch-near f s zero a x = omega arith
  stretch-near f s (suc n) a x =
      go (goes_on p (phase_on a)) (stretch_in p r n (next_axis r a x) (next_cell r a x)) (stretch-near f s n (next_axis r a x) (next_cell r a x))
    where
      go : (b : Bool) (t : Stretch) → mag t.cell ≤ mag (next_cell r a x) + t.ticks * 2 ^ 21
          → (let u = cond b (tick_more t) (here a x) in mag u.cell ≤ mag x + u.ticks * 2 ^ 21)
      go true t h = omega (arith, h, tick-near r f s (running_leg (phase_on a)) x)
      go false t h = omega arith

-- a stretch that begins where the run has not stopped has a tick at least
pub some-tick : (r : Rail) (n : ℕ) (a : Axis) (x : ℤ) → 0 < n → stopped (phase_on a) ≡ false → 0 < (stretch_of r n a x).ticks
some-tick r zero a x h s = absurd (omega arith)
some-tick r (suc n) a x h s = rw (same-goes (phase_on a) s) (omega arith)

pub run_out : (r : Rail) (k d : ℕ) (a : Axis) (x : ℤ) → k ≡ 0 → later d (ride r k a x) ≡ ran d (stop_of (phase_on a))
run_out r k d a x e = let z : d + 0 ≡ d = omega arith in rw (e, z)

pub run-stopped : (r : Rail) (k d : ℕ) (a : Axis) (x : ℤ) → stopped (phase_on a) ≡ true → later d (ride r k a x) ≡ ran d (stop_of (phase_on a))
run-stopped r zero d a x s = run_out r zero d a x refl
run-stopped r (suc k) d a x s = let z : d + 0 ≡ d = omega arith in rw (s, z)

-- a run of n ticks, of which k are left, goes on with a stretch that leaves j of them
pub record Onward (r : Rail) (n k : ℕ) (a : Axis) (x : ℤ) (j : ℕ) (y : ℤ) (b : Axis) : Type 0 where
  pub same : later (n - k) (ride r k a x) ≡ later (n - j) (ride r j b y)
  pub some : j < k

pub goes-onward : (r : Rail) (n k : ℕ) (a : Axis) (x : ℤ) (j : ℕ) (y : ℤ) (b : Axis) → 0 < k → k ≤ n → j ≤ k
    → stopped (phase_on a) ≡ false → stretch_of r k a x ≡ led_to (k - j) y b → Onward r n k a x j y b
goes-onward r n k a x j y b l h f s e =
    let i : k - (k - j) ≡ j = omega arith in
    let q = ride r j b y in
    let z : n - k + (k - j + q.ticks) ≡ n - j + q.ticks = omega arith in
    let some : 0 < k - j = rw e at (some-tick r k a x l s) in
    record {
      same = ap (later (n - k)) (rw i at (rw e at (rides-on r (phase_on a) k a x))) ∙ ap (λ (m : ℕ). ran m q.stop) z;
      some = omega (arith, some);
    }
