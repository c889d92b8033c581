-- A leg with the limit ahead on ends: by its event, which leaves fewer legs, or by the limit, which fails or turns to a route that no limit turns.
-- Assumes nothing.
use mathlib.Core.Path.{◌≡◌, refl, sym, ap, ◌∙◌}
use mathlib.Core.Bool.{Bool, true, false, So, false≢true, cond, not, ◌&&◌}
use Prim.Native.Nat.{ℕ, ◌/◌}
use native.Mathlib.Omega.{arith}
use lib.Dec.{eqb}
use borrow.Author.Tests.{eqb-false}
use Rattle.legs.specs.Legs.{Leg}
use Rattle.legs.specs.Events.{View, event_counts, limit_counts, limit_ahead}
use Rattle.legs.specs.Routes.{row_of}
use Rattle.legs.specs.Numbers.{leg_from, turns_in, turn_in, turn_route}
use Rattle.legs.proofs.Rows.{everywhere}
use Rattle.homing.specs.Phase.{Phase, Idle, Running, Homed, Failed, running_in}
use Rattle.homing.specs.Steps.{entered, limit_at, running_of}
use Rattle.homing.specs.Parked.{EndsAtLimit}

abbrev route_in : Phase → ℕ
route_in Idle = 0
route_in (Running route) = route
route_in Homed = 0
route_in Failed = 0

-- no limit turns a route that a limit turned to
turned-once : (m : ℕ) → turns_in (turn_route m) ≡ false
unfolding row_of turn_route
turned-once = everywhere (λ o. turns_in (turn_in o)) (λ n. false) refl (λ n h. refl)

by-event : (route : ℕ) → entered (route / 256) ≡ Running route → ⊥
by-event route e = go (eqb (route / 256) 0) refl e
  where
    go : (b : Bool) → eqb (route / 256) 0 ≡ b → cond b Homed (Running (route / 256)) ≡ Running route → ⊥
    go true q p = false≢true (ap running_in p)
    go false q p = let n = eqb-false (route / 256) 0 q in let s : route / 256 ≡ route = ap route_in p in n (omega arith)

by-limit : (m route : ℕ) → limit_at m route ≡ Running route → ⊥
by-limit m route e = go (turns_in route && not (eqb (turn_route m) 0)) refl e
  where
    left : (a b : Bool) → a && b ≡ true → a ≡ true
    left true b p = refl
    left false b p = p

    go : (b : Bool) → turns_in route && not (eqb (turn_route m) 0) ≡ b → cond b (Running (turn_route m)) Failed ≡ Running route → ⊥
    go true q p = false≢true (sym (turned-once m) ∙ ap turns_in (ap route_in p) ∙ left (turns_in route) (not (eqb (turn_route m) 0)) q)
    go false q p = false≢true (ap running_in p)

limit-met : (l : Leg) (v : View) → v.halted ≡ false → So (limit_ahead l.forward v.now) → limit_counts l v ≡ true
unfolding limit_counts
limit-met l v h on = rw h on

pub ends-at-limit : EndsAtLimit
unfolding running_of
ends-at-limit m route v h on e =
    go v.kept (event_counts (leg_from route) v) (limit_counts (leg_from route) v) (limit-met (leg_from route) v h on) e
  where
    go : (a b c : Bool) → c ≡ true
        → cond a (cond b (entered (route / 256)) (cond c (limit_at m route) (Running route))) Idle ≡ Running route
        → ⊥
    go false b c q s = false≢true (ap running_in s)
    go true true c q s = by-event route s
    go true false true q s = by-limit m route s
    go true false false q s = false≢true q
