-- Homing by number is homing along the plan's legs: a number stands for the legs that its bytes spell. Only the tests of what the numbers of
-- a method's routes spell look at the table; all else holds of any.
-- Assumes nothing.
use mathlib.Core.Path.{◌≡◌, refl, ap}
use mathlib.Core.Logic.{◌↔◌}
use mathlib.Core.Bool.{Bool, true, false, So, false≢true, cond, not}
use mathlib.Core.List.{List, [], ◌∷◌, head-eq_of_cons-eq, tail-eq_of_cons-eq}
use mathlib.Core.Option.{Option, none, some}
use Prim.Native.Nat.{ℕ, ◌/◌}
use lib.Dec.{eqb}
use Rattle.legs.specs.declared.events.Switches.{Switches}
use Rattle.legs.specs.Legs.{Leg}
use Rattle.legs.specs.Events.{View, event_counts, limit_counts}
use Rattle.legs.specs.Routes.{Row, table, row_of, Plan, later, plan_by, plan_in, plan_of}
use Rattle.legs.specs.Numbers.{rest, is_route, main_route, turn_route, skip_route, skips, start_route, leg_from, turns_in}
use Rattle.homing.specs.Complete.{CompletesPlan}
use Rattle.homing.specs.Progress.{Progress, idle, failed, homed, running, begin, on_limit, advance, advance_all, begun, started, is_homed}
use Rattle.homing.specs.Phase.{Phase, Idle, Running, Homed, Failed, homed_in}
use Rattle.homing.specs.Steps.{entered, limit_at, running_of, start_in, start_of, step_of, step_all}
use Rattle.homing.proofs.Completion.{homed-iff, idle-stays}
use Rattle.legs.proofs.Rows.{found-same}

-- a number's bytes are these legs, and whether a limit turns the first; none turns a later one
abbrev pub Spells : ℕ → List Leg → Bool → Type 0
Spells n [] turns = eqb n 0 ≡ true
Spells n (l ∷ ls) turns = (eqb n 0 ≡ false) × (leg_from n ≡ l) × (turns_in n ≡ turns) × Spells (n / 256) ls false

-- whether there is a turn, and what its number spells
abbrev turning : Option (List Leg) → Bool
turning none = false
turning (some ls) = true

abbrev Behind : ℕ → Option (List Leg) → Type 0
Behind m none = Unit
Behind m (some ls) = (eqb (turn_route m) 0 ≡ false) × Spells (turn_route m) ls false

-- a phase of method m and a progress along a plan are the same stage of homing
pub data Same (m : ℕ) : Phase → Progress → Type 0 where
  both-idle : Same m Idle idle
  both-failed : Same m Failed failed
  both-homed : Same m Homed homed
  both-running : {n : ℕ} {l : Leg} {ls : List Leg} {t : Option (List Leg)} → Spells n (l ∷ ls) (turning t) → Behind m t
      → Same m (Running n) (running l ls t)

-- what a number's bytes hold, beside what they should
abbrev Byte : Type 0
Byte = Bool × Leg × Bool

abbrev bytes : List Leg → ℕ → List Byte
bytes [] n = (eqb n 0, leg_from 0, false) ∷ []
bytes (l ∷ ls) n = (eqb n 0, leg_from n, turns_in n) ∷ bytes ls (n / 256)

abbrev wanted : List Leg → Bool → List Byte
wanted [] turns = (true, leg_from 0, false) ∷ []
wanted (l ∷ ls) turns = (false, l, turns) ∷ wanted ls false

spelled : (ls : List Leg) (n : ℕ) (turns : Bool) → bytes ls n ≡ wanted ls turns → Spells n ls turns
spelled [] n turns q = ap (λ (b : Byte). b.0) (head-eq_of_cons-eq q)
spelled (l ∷ ls) n turns q =
    let h = head-eq_of_cons-eq q in (
      ap (λ (b : Byte). b.0) h,
      ap (λ (b : Byte). b.1) h,
      ap (λ (b : Byte). b.2) h,
      spelled ls (n / 256) false (tail-eq_of_cons-eq q),
    )

-- the routes of each method: one computed test of the table each
module _ (m : ℕ) (r : Row) (e : row_of m ≡ some r) where
  main-spelled : Spells (main_route m) r.a (turning (later r.b))
  unfolding row_of main_route
  main-spelled =
      spelled r.a (main_route m) (turning (later r.b))
      (found-same (λ n x. bytes x.a (main_route n)) (λ n x. wanted x.a (turning (later x.b))) m r table refl e)

  skip-spelled : Spells (skip_route m) r.c false
  unfolding row_of skip_route
  skip-spelled = spelled r.c (skip_route m) false (found-same (λ n x. bytes x.c (skip_route n)) (λ n x. wanted x.c false) m r table refl e)

  turn-spelled : Spells (turn_route m) (rest r.b) false
  unfolding row_of turn_route
  turn-spelled =
      spelled (rest r.b) (turn_route m) false
      (found-same (λ n x. bytes (rest x.b) (turn_route n)) (λ n x. wanted (rest x.b) false) m r table refl e)

  turn-there : eqb (turn_route m) 0 ≡ not (is_route r.b)
  unfolding row_of turn_route
  turn-there = found-same (λ n x. eqb (turn_route n) 0) (λ n x. not (is_route x.b)) m r table refl e

  turn-behind : Behind m (later r.b)
  turn-behind = go r.b turn-there turn-spelled
    where
      go : (b : List Leg) → eqb (turn_route m) 0 ≡ not (is_route b) → Spells (turn_route m) (rest b) false → Behind m (later b)
      go [] p s = tt
      go (l ∷ ls) p s = (p, s)

module _ (m : ℕ) where
  enter-same : (n : ℕ) (ls : List Leg) (t : Option (List Leg)) → Spells n ls (turning t) → Behind m t → Same m (entered n) (begin ls t)
  enter-same n [] t s b = rw s both-homed
  enter-same n (l ∷ ls) t s b = rw s.0 (both-running s b)

  limit-same : (n : ℕ) (t : Option (List Leg)) → turns_in n ≡ turning t → Behind m t → Same m (limit_at m n) (on_limit t)
  limit-same n none q b = rw q both-failed
  limit-same n (some ls) q b = rw (q, b.0) (rw b.0 at (enter-same (turn_route m) ls none b.1 tt))

  pub step_same : {p : Phase} {q : Progress} → Same m p q → (v : View) → Same m (step_of p m v) (advance q v)
  unfolding advance running_of
  step_same both-idle v = both-idle
  step_same both-failed v = both-failed
  step_same both-homed v = both-homed
  step_same (both-running {n} {l} {ls} {t} s b) v = rw s.1 (go v.kept (event_counts l v) (limit_counts l v))
    where
      go : (k c x : Bool) → Same m
          (cond k (cond c (entered (n / 256)) (cond x (limit_at m n) (Running n))) Idle)
          (cond k (cond c (begin ls none) (cond x (on_limit t) (running l ls t))) idle)
      go false c x = both-idle
      go true true x = enter-same (n / 256) ls none s.3 tt
      go true false true = limit-same n t s.2 b
      go true false false = both-running s b

  pub all_same : {p : Phase} {q : Progress} → Same m p q → (vs : List View) → Same m (step_all p m vs) (advance_all q vs)
  all_same s [] = s
  all_same {p = p} {q = q} s (v ∷ vs) = all_same {p = step_of p m v} {q = advance q v} (step_same s v) vs

  pub start-same : (s : Switches) → Same m (start_of m s) (started (plan_of m s))
  unfolding start_of start_route skips
  start-same s = go (row_of m) refl
    where
      by : (r : Row) → row_of m ≡ some r → (b : Bool) → Same m (entered (cond b (skip_route m) (main_route m))) (begun (plan_by b r))
      by r e true = enter-same (skip_route m) r.c none (skip-spelled m r e) tt
      by r e false = enter-same (main_route m) r.a (later r.b) (main-spelled m r e) (turn-behind m r e)

      go : (o : Option Row) → row_of m ≡ o → Same m (start_in m s o) (started (plan_in s o))
      go none e = both-idle
      go (some r) e = rw e (by r e (r.picks s))

pub same-homed : {m : ℕ} {p : Phase} {q : Progress} → Same m p q → homed_in p ≡ is_homed q
same-homed both-idle = refl
same-homed both-failed = refl
same-homed both-homed = refl
same-homed (both-running s b) = refl

-- for every number of a method, homing is homed after a start and later ticks exactly when these complete a route that the start allows
pub homing-iff : (m : ℕ) (s : Switches) (vs : List View) → So (homed_in (step_all (start_of m s) m vs)) ↔ CompletesPlan (plan_of m s) vs
homing-iff m s vs = rw (same-homed (all_same m (start-same m s) vs)) (go (plan_of m s))
  where
    go : (o : Option Plan) → So (is_homed (advance_all (started o) vs)) ↔ CompletesPlan o vs
    go none = (λ h. false≢true (rw (idle-stays vs) at h), absurd)
    go (some p) = homed-iff p vs
