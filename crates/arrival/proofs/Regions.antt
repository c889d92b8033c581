-- Five regions of a rail: below cell 0, before the cam, on it, after it, from L on. Under methods 23 to 30 every way through them homes: a computed
-- test, with no list of states written by hand and no method named in it.
-- Assumes nothing.
use Prim.Native.Nat.{ℕ, zero, suc, ◌+◌, ◌-◌, ◌≤◌, max}
use native.Mathlib.Omega.{arith}
use mathlib.Core.Path.{◌≡◌, refl}
use mathlib.Core.Bool.{Bool, true, false, So, false≢true, cond, not, ◌&&◌, ◌||◌, and-eq-true_iff}
use mathlib.Core.List.{List}
use mathlib.Core.Option.{Option, none, some}
use lib.Dec.{leb}
use lib.ListN.{length}
use borrow.Author.Tests.{leb-true}
use Rattle.counts.specs.declared.Movement.TheVariants.{Backward, Forward}
use Rattle.legs.specs.declared.events.Switches.{Switches}
use Rattle.legs.specs.Legs.{Leg}
use Rattle.legs.specs.Events.{View, all_off, event_counts, limit_counts}
use Rattle.legs.specs.Routes.{row_of, plan_of}
use Rattle.legs.proofs.Computed.{listed, agree}
use Rattle.homing.specs.Progress.{Progress, idle, failed, homed, running, advance, started}

pub data Region : Type 0 where
  below before on after beyond : Region

abbrev pub levels : Region → Switches
levels below = record { positive = false; negative = true; home = false; index = false }
levels before = all_off
levels on = record { positive = false; negative = false; home = true; index = false }
levels after = all_off
levels beyond = record { positive = true; negative = false; home = false; index = false }

-- the neighbour in a direction
abbrev pub next : Bool → Region → Region
next true below = before
next true before = on
next true on = after
next true after = beyond
next true beyond = beyond
next false below = below
next false before = below
next false on = before
next false after = on
next false beyond = after

-- there is one
abbrev pub has_next : Bool → Region → Bool
has_next true beyond = false
has_next true below = true
has_next true before = true
has_next true on = true
has_next true after = true
has_next false below = false
has_next false before = true
has_next false on = true
has_next false after = true
has_next false beyond = true

-- a tick of a leg from one region into another, or within one
abbrev pub between : Leg → Region → Region → View
between l q q' =
    record { kept = true; halted = false; movement = cond l.forward Forward Backward; before = levels q; now = levels q' }

-- neither the leg's event counts nor a limit
abbrev pub quiet : Leg → View → Bool
quiet l v = not (event_counts l v || limit_counts l v)

-- from a region on, homing homes, and until then no tick within a region counts
pub data Leads : Progress → Region → Type 0 where
  arrived : {q : Region} → Leads homed q
  under-way : {l : Leg} {ls : List Leg} {t : Option (List Leg)} {q : Region} → So (has_next l.forward q) → So (quiet l (between l q q))
      → Leads (advance (running l ls t) (between l q (next l.forward q))) (next l.forward q) → Leads (running l ls t) q

-- the same as a test: within fewer than k changes of region
abbrev leads : ℕ → Progress → Region → Bool
leads zero p q = false
leads (suc k) homed q = true
leads (suc k) idle q = false
leads (suc k) failed q = false
leads (suc k) (running l ls t) q =
    has_next l.forward q
    && (quiet l (between l q q) && leads k (advance (running l ls t) (between l q (next l.forward q))) (next l.forward q))

leads-by : (k : ℕ) (p : Progress) (q : Region) → So (leads k p q) → Leads p q
leads-by zero p q h = absurd (false≢true h)
leads-by (suc k) homed q h = arrived
leads-by (suc k) idle q h = absurd (false≢true h)
leads-by (suc k) failed q h = absurd (false≢true h)
leads-by (suc k) (running l ls t) q h =
    let a = (and-eq-true_iff _ _).0 h in let b = (and-eq-true_iff _ _).0 a.1 in under-way a.0 b.0 (leads-by k _ _ b.1)

abbrev pub legs_in : Option (List Leg) → ℕ
legs_in none = 0
legs_in (some ls) = length ls

-- the legs that may follow the running one
abbrev pub legs_after : Progress → ℕ
legs_after idle = 0
legs_after failed = 0
legs_after homed = 0
legs_after (running l ls t) = max (length ls) (legs_in t)

abbrev pub started_in : Region → ℕ → Progress
started_in q m = started (plan_of m (levels q))

-- a start of a method in a region leads home, by at most four legs
pub record Fine (q : Region) (m : ℕ) : Type 0 where
  pub led : Leads (started_in q m) q
  pub few : legs_after (started_in q m) ≤ 3

abbrev fine : Region → ℕ → Bool
fine q m = leads 9 (started_in q m) q && leb (legs_after (started_in q m)) 3

module _ (m : ℕ) (h : 23 ≤ m) (k : m ≤ 30) where
  by-test : (q : Region) → listed (λ n. fine q (23 + n)) 0 8 ≡ listed (λ n. true) 0 8 → Fine q m
  by-test q t =
      let e : 23 + (m - 23) ≡ m = omega arith in
      let f = (and-eq-true_iff _ _).0 (rw e at (agree (λ n. fine q (23 + n)) (λ n. true) 8 t (m - 23) (omega arith))) in
      record { led = leads-by 9 (started_in q m) q f.0; few = leb-true (legs_after (started_in q m)) 3 f.1 }

  -- for each of the eight methods, in each region of the rail itself
  pub all-fine : (q : Region) → So (has_next true q) → So (has_next false q) → Fine q m
  unfolding row_of advance event_counts limit_counts
  all-fine below a b = absurd (false≢true b)
  all-fine before a b = by-test before refl
  all-fine on a b = by-test on refl
  all-fine after a b = by-test after refl
  all-fine beyond a b = absurd (false≢true a)
