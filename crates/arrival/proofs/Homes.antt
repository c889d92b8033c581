-- On a roomy rail a run homes in time. What is owed, in cells: the way to the limit ahead, and for each leg after this one C, a share for the whole
-- way; every tick pays s of it. Five regions say that no limit sets the error.
-- Assumes nothing.
use Prim.Native.Nat.{ℕ, zero, suc, ◌+◌, ◌-◌, ◌*◌, ◌^◌, ◌≤◌, ◌<◌, max}
use native.Mathlib.Nat.{mul-le-mul_right, div-add-mod', mod-lt}
use native.Mathlib.Omega.{arith}
use mathlib.Core.Path.{◌≡◌, refl, sym, ap, subst, ◌∙◌}
use mathlib.Core.Logic.{◌⊎◌, inl, inr, ⊎_elim}
use mathlib.Core.Bool.{Bool, true, false, So, false≢true, cond, not, ◌||◌, ◌&&◌}
use mathlib.Core.List.{List, [], ◌∷◌}
use mathlib.Core.Option.{Option, none, some}
use lib.Dec.{ltb, leb}
use lib.IntN.{ℤ, pos, ◌+ℤ◌}
use lib.ListN.{length}
use borrow.Author.Tests.{ltb-true, ltb-false, lt-ltb, le-ltb, le-leb, lt-leb}
use Rattle.legs.specs.Legs.{Leg}
use Rattle.legs.specs.Events.{event_counts, limit_counts}
use Rattle.homing.specs.Progress.{Progress, idle, failed, homed, running, begin, on_limit, advance}
use Rattle.checks.proofs.Numbers.{accepts}
use Rattle.carriage.specs.declared.Rail.{Rail}
use Rattle.carriage.specs.Rail.{switches_at, stride_of}
use Rattle.carriage.proofs.Fitting.{fitting}
use Rattle.simulator.proofs.Runs.{ridden-to, admits}
use Rattle.arrival.specs.Homes.{ceiling, bound, HomedWithin, HomesInTime}
use Rattle.arrival.proofs.Homing.{run, tried, as-tried}
use Rattle.arrival.proofs.Cells.{cell, along, forward-cell, backward-cell, pos-cell, neg-cell, movement}
use Rattle.arrival.proofs.Regions.{Region, below, before, on, after, beyond, levels, next, has_next, between, quiet, Leads, arrived, under-way, legs_in, legs_after, started_in, Fine, all-fine}

-- a roomy rail whose carriage moves, and less than half of what a count holds
record Ample (r : Rail) : Type 0 where
  moves : 0 < r.slow
  small : r.fast < 2 ^ 31
  slower : r.slow ≤ r.fast
  on_cam : r.fast ≤ r.width
  before_cam : r.fast ≤ r.cam
  after_cam : r.cam + r.width + r.fast ≤ r.length

abbrev speed : Rail → Bool → ℕ
speed r fast = cond fast r.fast r.slow

-- a leg's share of the ticks
abbrev share : Rail → ℕ
share r = ceiling (r.length + r.fast) r.slow + 1

abbrev lowest : Rail → Region → ℕ
lowest r below = 0
lowest r before = r.fast
lowest r on = r.fast + r.cam
lowest r after = r.fast + r.cam + r.width
lowest r beyond = r.fast + r.length

abbrev above : Rail → Region → ℕ
above r below = r.fast
above r before = r.fast + r.cam
above r on = r.fast + r.cam + r.width
above r after = r.fast + r.length
above r beyond = 2 * r.fast + r.length

-- the cell y − f is in a region, and not beyond L + f
pub record In (r : Rail) (q : Region) (y : ℕ) : Type 0 where
  pub low : lowest r q ≤ y
  pub high : y < above r q
  pub near : y < 2 * r.fast + r.length

abbrev shifted : Bool → ℕ → ℕ → ℕ
shifted true y n = y + n
shifted false y n = y - n

-- cells to the limit ahead
abbrev way : Rail → Bool → ℕ → ℕ
way r true y = r.fast + r.length - y
way r false y = y + 1 - r.fast

abbrev owed : Rail → ℕ → Progress → ℕ → ℕ
owed r C idle y = 0
owed r C failed y = 0
owed r C homed y = 0
owed r C (running l ls t) y = max (length ls) (legs_in t) * C + way r l.forward y

-- what is owed is paid in T ticks
abbrev Claim : Rail → ℕ → ℕ → Type 0
Claim r C T =
    (n : ℕ) (p : Progress) (q : Region) (y : ℕ) → T ≤ n → Leads p q → In r q y → owed r C p y ≤ T * r.slow
    → HomedWithin T (run r n p (cell r.fast y))

stays : (l : Leg) (ls : List Leg) (t : Option (List Leg)) (q : Region) → So (quiet l (between l q q))
    → advance (running l ls t) (between l q q) ≡ running l ls t
unfolding advance
stays l ls t q h = go (event_counts l (between l q q)) (limit_counts l (between l q q)) h
  where
    go : (e c : Bool) → So (not (e || c)) → cond e (begin ls none) (cond c (on_limit t) (running l ls t)) ≡ running l ls t
    go true c h = absurd (false≢true h)
    go false true h = absurd (false≢true h)
    go false false h = refl

at_home : (r : Rail) (n T : ℕ) (x : ℤ) → HomedWithin T (run r n homed x)
at_home r zero T x = record { number = refl; stop = refl; ticks = omega arith }
at_home r (suc n) T x = record { number = refl; stop = refl; ticks = omega arith }

module _ (r : Rail) (fit : Ample r) where
  -- the switches are those of the region
  switches-by : (y : ℕ) {p a b : Bool} → r.fast ≤ y → leb r.length (y - r.fast) ≡ p → leb r.cam (y - r.fast) ≡ a
      → ltb (y - r.fast) (r.cam + r.width) ≡ b
      → switches_at r (cell r.fast y) ≡ record { positive = p; negative = false; home = a && b; index = false }
  unfolding switches_at
  switches-by y h e f g = rw (pos-cell r.fast y h, e, f, g, le-ltb (y - r.fast) 0 (omega arith))

  switches-in : (q : Region) (y : ℕ) → In r q y → switches_at r (cell r.fast y) ≡ levels q
  unfolding switches_at
  switches-in below y i = rw (neg-cell r.fast y (omega arith))
  switches-in before y i =
      let x = y - r.fast in
      switches-by y (omega arith) (lt-leb r.length x (omega arith)) (lt-leb r.cam x (omega arith)) (lt-ltb x (r.cam + r.width) (omega arith))
  switches-in on y i =
      let x = y - r.fast in
      switches-by y (omega arith) (lt-leb r.length x (omega arith)) (le-leb r.cam x (omega arith)) (lt-ltb x (r.cam + r.width) (omega arith))
  switches-in after y i =
      let x = y - r.fast in
      switches-by y (omega arith) (lt-leb r.length x (omega arith)) (le-leb r.cam x (omega arith)) (le-ltb x (r.cam + r.width) (omega arith))
  switches-in beyond y i =
      let x = y - r.fast in
      switches-by y (omega arith) (le-leb r.length x (omega arith)) (le-leb r.cam x (omega arith)) (le-ltb x (r.cam + r.width) (omega arith))

  speeds : (fast : Bool) → (r.slow ≤ speed r fast) × (speed r fast ≤ r.fast)
  speeds true = omega arith
  speeds false = omega arith

  way-short : (forward : Bool) {y : ℕ} → y < 2 * r.fast + r.length → way r forward y ≤ r.length + r.fast
  way-short true h = omega arith
  way-short false h = omega arith

  module _ (y n : ℕ) (slow : r.slow ≤ n) (fast : n ≤ r.fast) where
    -- no tick leaps over a region
    forward-in : (q : Region) → So (has_next true q) → In r q y → (1 ≤ way r true y) × (above r q ≤ y + n → In r (next true q) (y + n))
    forward-in below h i = omega arith
    forward-in before h i = omega arith
    forward-in on h i = omega arith
    forward-in after h i = omega arith
    forward-in beyond h i = absurd (false≢true h)

    backward-in : (q : Region) → So (has_next false q) → In r q y → (1 ≤ way r false y) × (y - n < lowest r q → In r (next false q) (y - n))
    backward-in below h i = absurd (false≢true h)
    backward-in before h i = omega arith
    backward-in on h i = omega arith
    backward-in after h i = omega arith
    backward-in beyond h i = omega arith

    ahead : (forward : Bool) (q : Region) → So (has_next forward q) → In r q y → 1 ≤ way r forward y
    ahead true q h i = (forward-in q h i).0
    ahead false q h i = (backward-in q h i).0

    moved_in : (forward : Bool) (q : Region) → So (has_next forward q) → In r q y
        → In r q (shifted forward y n) ⊎ In r (next forward q) (shifted forward y n)
    moved_in true q h i = go (ltb (y + n) (above r q)) refl
      where
        go : (b : Bool) → ltb (y + n) (above r q) ≡ b → In r q (y + n) ⊎ In r (next true q) (y + n)
        go true e = let k = ltb-true (y + n) (above r q) e in let w = (forward-in q h i).0 in inl (omega arith)
        go false e = inr ((forward-in q h i).1 (ltb-false (y + n) (above r q) e))
    moved_in false q h i = go (ltb (y - n) (lowest r q)) refl
      where
        go : (b : Bool) → ltb (y - n) (lowest r q) ≡ b → In r q (y - n) ⊎ In r (next false q) (y - n)
        go true e = inr ((backward-in q h i).1 (ltb-true (y - n) (lowest r q) e))
        go false e = let k = ltb-false (y - n) (lowest r q) e in inl (omega arith)

    moved-cell : (forward : Bool) → 1 ≤ way r forward y → cell r.fast y +ℤ along forward n ≡ cell r.fast (shifted forward y n)
    moved-cell true h = forward-cell r.fast y n
    moved-cell false h = backward-cell r.fast y n (omega arith)

    -- a tick of the same leg pays
    nearer : (forward : Bool) → 1 ≤ way r forward (shifted forward y n) → way r forward (shifted forward y n) + r.slow ≤ way r forward y
    nearer true h = omega arith
    nearer false h = omega arith

  module _ (C : ℕ) (wide : r.length + r.fast + r.slow ≤ C) where
    module _ (T : ℕ) where
      -- the tick that ends a leg pays with that leg's C
      begun-owed : (ls : List Leg) {q : Region} {y : ℕ} → In r q y → length ls * C ≤ suc T * r.slow → owed r C (begin ls none) y ≤ T * r.slow
      begun-owed [] i h = omega arith
      begun-owed (l ∷ ls) i h =
          let w = way-short l.forward i.near in
          let e : max (length ls) 0 * C ≤ length ls * C = mul-le-mul_right C (omega arith) in
          omega arith

      module _ (l : Leg) (ls : List Leg) (t : Option (List Leg)) {q : Region} {z : ℕ} (y : ℕ) (i : In r q z)
          (pays : 1 ≤ way r l.forward z → way r l.forward z + r.slow ≤ way r l.forward y)
          (h : owed r C (running l ls t) y ≤ suc T * r.slow) where
        legs-owed : (m : ℕ) → m ≤ max (length ls) (legs_in t) → m * C ≤ suc T * r.slow
        legs-owed m e = let g : m * C ≤ max (length ls) (legs_in t) * C = mul-le-mul_right C e in omega arith

        limit-owed : (u : Option (List Leg)) → legs_in u ≤ max (length ls) (legs_in t) → owed r C (on_limit u) z ≤ T * r.slow
        limit-owed none e = omega arith
        limit-owed (some us) e = begun-owed us i (legs-owed (length us) e)

        same-owed : Leads (running l ls t) q → owed r C (running l ls t) z ≤ T * r.slow
        same-owed (under-way more s g) = let p = pays (ahead z r.fast fit.slower (omega arith) l.forward q more i) in omega arith

        still-owed : (e c : Bool) → Leads (cond e (begin ls none) (cond c (on_limit t) (running l ls t))) q
            → owed r C (cond e (begin ls none) (cond c (on_limit t) (running l ls t))) z ≤ T * r.slow
        still-owed true c g = begun-owed ls i (legs-owed (length ls) (omega arith))
        still-owed false true g = limit-owed t (omega arith)
        still-owed false false g = same-owed g

      module _ (ih : Claim r C T) (n : ℕ) (l : Leg) (ls : List Leg) (t : Option (List Leg)) (q : Region) (y : ℕ)
          (h : T ≤ n) (i : In r q y) (o : owed r C (running l ls t) y ≤ suc T * r.slow) (more : So (has_next l.forward q)) where
        abbrev Onward : Type 0
        Onward = HomedWithin (suc T) (run r (suc n) (running l ls t) (cell r.fast y))

        onward : (p : Region) → In r p (shifted l.forward y (speed r l.fast)) → Leads (advance (running l ls t) (between l q p)) p
            → Onward
        unfolding advance stride_of
        onward p m g =
            let v = speed r l.fast in
            let z = shifted l.forward y v in
            let a = (speeds l.fast).0 in
            let b = (speeds l.fast).1 in
            let w = still-owed l ls t y m (nearer y v a b l.forward) o (event_counts l (between l q p)) (limit_counts l (between l q p)) g in
            let done = ih n (advance (running l ls t) (between l q p)) p z h g m w in
            let e = moved-cell y v a b l.forward (ahead y v a b l.forward q more i) in
            let k = movement l.forward v (cell r.fast y) (omega arith) (omega arith) in
            rw (k, e, switches-in q y i, switches-in p z m) (record { number = refl; stop = done.stop; ticks = omega arith })

        step : So (quiet l (between l q q)) → Leads (advance (running l ls t) (between l q (next l.forward q))) (next l.forward q)
            → Onward
        step s g =
            ⊎_elim
            (λ m. onward q m (rw (stays l ls t q s) (under-way more s g)))
            (λ m. onward (next l.forward q) m g)
            (moved_in y (speed r l.fast) (speeds l.fast).0 (speeds l.fast).1 l.forward q more i)

    none_left : Claim r C zero
    none_left n p q y h arrived i o = at_home r n zero (cell r.fast y)
    none_left n p q y h (under-way {l} more s g) i o =
        let w = ahead y r.fast fit.slower (omega arith) l.forward q more i in absurd (omega arith)

    one_more : (T : ℕ) → Claim r C T → Claim r C (suc T)
    one_more T ih n p q y h arrived i o = at_home r n (suc T) (cell r.fast y)
    one_more T ih zero p q y h (under-way more s g) i o = absurd (omega arith)
    one_more T ih (suc n) p q y h (under-way {l} {ls} {t} more s g) i o = step T ih n l ls t q y (omega arith) i o more s g

    claim : (T : ℕ) → Claim r C T
    claim zero = none_left
    claim (suc T) = one_more T (claim T)

    owed-first : (p : Progress) {y : ℕ} → y < 2 * r.fast + r.length → legs_after p ≤ 3 → owed r C p y ≤ 4 * C
    owed-first idle i h = omega arith
    owed-first failed i h = omega arith
    owed-first homed i h = omega arith
    owed-first (running l ls t) i h =
        let w = way-short l.forward i in let e : max (length ls) (legs_in t) * C ≤ 3 * C = mul-le-mul_right C h in omega arith

  start-region : (start : ℕ) → start < r.length → (q : Region) × In r q (start + r.fast) × So (has_next true q) × So (has_next false q)
  start-region start h = go (ltb start r.cam) (ltb start (r.cam + r.width)) refl refl
    where
      go : (a b : Bool) → ltb start r.cam ≡ a → ltb start (r.cam + r.width) ≡ b
          → (q : Region) × In r q (start + r.fast) × So (has_next true q) × So (has_next false q)
      go true b e g = let k = ltb-true start r.cam e in (before, omega arith, refl, refl)
      go false true e g =
          let k = ltb-false start r.cam e in let m = ltb-true start (r.cam + r.width) g in (on, omega arith, refl, refl)
      go false false e g = let m = ltb-false start (r.cam + r.width) g in (after, omega arith, refl, refl)

-- of homing alone
homes : (r : Rail) → Ample r → (m : ℕ) → 23 ≤ m → m ≤ 30 → (start : ℕ) → start < r.length
    → (n : ℕ) → bound r ≤ n → HomedWithin (bound r) (tried r m (pos start) n)
homes r fit m a b start s n h =
    let g = start-region r fit start s in
    rw there at (from g.0 g.1 (all-fine m a b g.0 g.2 g.3))
  where
    wide : r.length + r.fast + r.slow ≤ share r * r.slow
    wide =
        let d = r.length + r.fast + r.slow - 1 in
        let e = div-add-mod' d r.slow in let g = mod-lt d fit.moves in omega arith

    from : (q : Region) → In r q (start + r.fast) → Fine q m → HomedWithin (bound r) (tried r m (cell r.fast (start + r.fast)) n)
    from q i g =
        let o = owed-first r fit (share r * r.slow) wide (started_in q m) i.near g.few in
        let c = claim r fit (share r * r.slow) wide (4 * share r) (n - 1) (started_in q m) q (start + r.fast) (omega arith) g.led i (omega arith) in
        rw (switches-in r fit q (start + r.fast) i) (record { number = refl; stop = c.stop; ticks = omega arith })

    there : cell r.fast (start + r.fast) ≡ pos start
    there = pos-cell r.fast (start + r.fast) (omega arith) ∙ ap pos (omega arith)

pub homes-in-time : HomesInTime
homes-in-time r s start n ok good a b roomy h =
    let f = fitting r start n ok in
    let ample : Ample r =
    record {
      moves = f.slow.least;
      small = omega (arith, f.fast.most);
      slower = roomy.slower;
      on_cam = roomy.on_cam;
      before_cam = roomy.before_cam;
      after_cam = roomy.after_cam;
    } in
    let t = homes r ample s.method a b f.cell f.on_rail n h in
    subst (HomedWithin (bound r)) (sym (as-tried r s good start n ∙ ap (λ (x : ℤ). tried r s.method x n) f.begins) ∙ ridden-to r s start n _ (admits r s start n ok ((accepts s).1 good)) refl) t
