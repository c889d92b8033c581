-- The leg tells its route. From a start on homing stands on the routes of its method: a route that a start picks, the one of a turn, or what is left of
-- one after a leg. These are a few numbers for each method, and it is computed over the table that no two of them begin with the same leg.
-- Assumes nothing.
use Prim.Native.Nat.{ℕ, ◌/◌}
use mathlib.Core.Path.{◌≡◌, refl, ap}
use mathlib.Core.Bool.{Bool, true, false, cond, not, ◌&&◌, ◌||◌, or-true, false≢true}
use mathlib.Core.List.{List, [], ◌∷◌, ◌++◌}
use mathlib.Core.Option.{Option, none, some, some-injective, none-ne-some, some-ne-none}
use borrow.Author.Tests.{eqb-true, eq-eqb}
use lib.Dec.{eqb}
use Rattle.settings.proofs.Within.{both}
use Rattle.legs.specs.declared.events.Switches.{Switches}
use Rattle.legs.specs.Events.{View, event_counts, limit_counts}
use Rattle.legs.specs.Routes.{Row, table, row_of}
use Rattle.legs.specs.Numbers.{byte_of, main_route, turn_route, skip_route, skips, start_route, leg_from, turns_in}
use Rattle.legs.proofs.Rows.{found-same}
use Rattle.homing.specs.Phase.{Phase, Idle, Running, Homed, Failed}
use Rattle.homing.specs.Moving.{running_leg}
use Rattle.homing.specs.Steps.{entered, limit_at, running_of, start_in, start_of, step_of, step_all}
use Rattle.independence.specs.Alike.{running_from}

-- a number among some
abbrev has : ℕ → List ℕ → Bool
has n [] = false
has n (x ∷ xs) = eqb n x || has n xs

abbrev every : (ℕ → Bool) → List ℕ → Bool
every f [] = true
every f (x ∷ xs) = f x && every f xs

of-every : (f : ℕ → Bool) (xs : List ℕ) → every f xs ≡ true → (n : ℕ) → has n xs ≡ true → f n ≡ true
of-every f [] e n h = absurd (false≢true h)
of-every f (x ∷ xs) e n h = go (eqb n x) refl h (of-every f xs (both (f x) (every f xs) e).1 n)
  where
    go : (b : Bool) → eqb n x ≡ b → b || has n xs ≡ true → (has n xs ≡ true → f n ≡ true) → f n ≡ true
    go true q h rest = rw (eqb-true n x q) (both (f x) (every f xs) e).0
    go false q h rest = rest h

further : (n : ℕ) (xs ys : List ℕ) → has n ys ≡ true → has n (xs ++ ys) ≡ true
further n [] ys h = h
further n (x ∷ xs) ys h = rw (further n xs ys h) (or-true (eqb n x))

-- a route and what is left of it after its first and its second leg; none has more than three
abbrev lefts : ℕ → List ℕ
lefts route = route ∷ route / 256 ∷ route / 256 / 256 ∷ []

abbrev routes : ℕ → List ℕ
routes method = lefts (main_route method) ++ lefts (turn_route method) ++ lefts (skip_route method)

-- what is computed: what a leg leaves is among them, or no leg is left; and with one leg, one route
abbrev goes_on : List ℕ → ℕ → Bool
goes_on ns n = eqb (n / 256) 0 || has (n / 256) ns

abbrev tells : ℕ → ℕ → Bool
tells n m = not (eqb (byte_of (leg_from n)) (byte_of (leg_from m))) || eqb n m

pub record LegsTell (m : ℕ) : Type 0 where
  pub closed : every (goes_on (routes m)) (routes m) ≡ true
  pub told : every (λ n. every (tells n) (routes m)) (routes m) ≡ true

computed : (m : ℕ) (r : Row) → row_of m ≡ some r → LegsTell m
unfolding row_of main_route turn_route skip_route
computed m r e =
    record {
      closed = found-same (λ n x. every (goes_on (routes n)) (routes n)) (λ n x. true) m r table refl e;
      told = found-same (λ n x. every (λ l. every (tells l) (routes n)) (routes n)) (λ n x. true) m r table refl e;
    }

has-turn : (m : ℕ) → has (turn_route m) (routes m) ≡ true
has-turn m = further (turn_route m) (lefts (main_route m)) (lefts (turn_route m) ++ lefts (skip_route m)) (rw (eq-eqb (turn_route m) (turn_route m) refl))

has-picked : (m : ℕ) (b : Bool) → has (cond b (skip_route m) (main_route m)) (routes m) ≡ true
has-picked m true = further (skip_route m) (lefts (main_route m) ++ lefts (turn_route m)) (lefts (skip_route m)) (rw (eq-eqb (skip_route m) (skip_route m) refl))
has-picked m false = rw (eq-eqb (main_route m) (main_route m) refl)

-- ---- homing stands on the routes of its method

pub data OnRoute (m : ℕ) : Phase → Type 0 where
  idle : OnRoute m Idle
  homed : OnRoute m Homed
  failed : OnRoute m Failed
  runs : {n : ℕ} → LegsTell m → has n (routes m) ≡ true → OnRoute m (Running n)

module _ (m : ℕ) (k : LegsTell m) where
  enters : (n : ℕ) → (eqb n 0 || has n (routes m)) ≡ true → OnRoute m (entered n)
  enters n h = go (eqb n 0) h
    where
      go : (b : Bool) → (b || has n (routes m)) ≡ true → OnRoute m (cond b Homed (Running n))
      go true h = homed
      go false h = runs k h

  meets-limit : (n : ℕ) → OnRoute m (limit_at m n)
  meets-limit n = go (turns_in n && not (eqb (turn_route m) 0))
    where
      go : (b : Bool) → OnRoute m (cond b (Running (turn_route m)) Failed)
      go true = runs k (has-turn m)
      go false = failed

  steps : (n : ℕ) → has n (routes m) ≡ true → (v : View) → OnRoute m (running_of m n v)
  unfolding running_of
  steps n h v = go v.kept (event_counts (leg_from n) v) (limit_counts (leg_from n) v)
    where
      go : (a b c : Bool) → OnRoute m (cond a (cond b (entered (n / 256)) (cond c (limit_at m n) (Running n))) Idle)
      go false b c = idle
      go true true c = enters (n / 256) (of-every (goes_on (routes m)) (routes m) k.closed n h)
      go true false true = meets-limit n
      go true false false = runs k h

step : (m : ℕ) {p : Phase} → OnRoute m p → (v : View) → OnRoute m (step_of p m v)
step m idle v = idle
step m homed v = homed
step m failed v = failed
step m (runs k h) v = steps m k _ h v

pub all-steps : (m : ℕ) {p : Phase} → OnRoute m p → (vs : List View) → OnRoute m (step_all p m vs)
all-steps m o [] = o
all-steps m {p = p} o (v ∷ vs) = all-steps m {p = step_of p m v} (step m o v) vs

pub starts : (m : ℕ) (s : Switches) → OnRoute m (start_of m s)
unfolding start_of start_route
starts m s = go (row_of m) refl
  where
    go : (o : Option Row) → row_of m ≡ o → OnRoute m (start_in m s o)
    go none e = idle
    go (some r) e = enters m (computed m r e) (start_route m s) (rw (has-picked m (skips m s)) (or-true (eqb (start_route m s) 0)))

-- ---- so the leg tells the route

one-route : (m : ℕ) → LegsTell m → (n l : ℕ) → has n (routes m) ≡ true → has l (routes m) ≡ true → leg_from n ≡ leg_from l → n ≡ l
one-route m k n l h g e =
    let t = of-every (tells n) (routes m) (of-every (λ x. every (tells x) (routes m)) (routes m) k.told n h) l g in
    eqb-true n l (rw (ap byte_of e, eq-eqb (byte_of (leg_from l)) (byte_of (leg_from l)) refl) at t)

-- where one does not run, neither does the other
at_rest : (m : ℕ) {q : Phase} → OnRoute m q → none ≡ running_leg q → none ≡ running_from q
at_rest m idle e = refl
at_rest m homed e = refl
at_rest m failed e = refl
at_rest m (runs k h) e = absurd (none-ne-some _ e)

pub tells-route : (m : ℕ) {p q : Phase} → OnRoute m p → OnRoute m q → running_leg p ≡ running_leg q → running_from p ≡ running_from q
tells-route m idle o e = at_rest m o e
tells-route m homed o e = at_rest m o e
tells-route m failed o e = at_rest m o e
tells-route m (runs k h) idle e = absurd (some-ne-none _ e)
tells-route m (runs k h) homed e = absurd (some-ne-none _ e)
tells-route m (runs k h) failed e = absurd (some-ne-none _ e)
tells-route m (runs {n} k h) (runs {n = l} j g) e = ap some (one-route m k n l h g (some-injective _ _ e))
