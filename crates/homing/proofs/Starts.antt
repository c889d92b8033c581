-- A start by the code's tests: only 35 has a route with no leg, and a number that is no method has no route.
-- Assumes nothing.
use Prim.Native.Nat.{ℕ}
use mathlib.Core.Path.{◌≡◌, refl, sym, ap, ◌∙◌}
use mathlib.Core.Bool.{Bool, true, false, not, cond, ◌&&◌, true≢false}
use mathlib.Core.Option.{Option, none, some}
use lib.Dec.{eqb}
use borrow.Author.Tests.{eqb-true}
use Rattle.legs.specs.declared.events.Switches.{Switches}
use Rattle.legs.specs.Routes.{Row, table, row_of}
use Rattle.legs.specs.Numbers.{main_route, skip_route, skips, start_route}
use Rattle.legs.proofs.Rows.{found-same, is_row}
use Rattle.homing.specs.Phase.{Idle}
use Rattle.homing.specs.Steps.{entered, start_in, start_of}

not-35 : (m : ℕ) → row_of m ≡ none → eqb m 35 ≡ false
unfolding row_of
not-35 m e = go (eqb m 35) refl
  where
    go : (b : Bool) → eqb m 35 ≡ b → b ≡ false
    go true t = absurd (true≢false (ap (λ (n : ℕ). is_row (row_of n)) (sym (eqb-true m 35 t)) ∙ ap is_row e))
    go false t = refl

-- a route that a start picks has a leg, but for 35's
legs-there : (m : ℕ) (r : Row) → row_of m ≡ some r → (b : Bool) → eqb (cond b (skip_route m) (main_route m)) 0 && not (eqb m 35) ≡ false
unfolding row_of main_route skip_route
legs-there m r e true = found-same (λ n x. eqb (skip_route n) 0 && not (eqb n 35)) (λ n x. false) m r table refl e
legs-there m r e false = found-same (λ n x. eqb (main_route n) 0 && not (eqb n 35)) (λ n x. false) m r table refl e

pub start_tests : (m : ℕ) (s : Switches) → start_of m s ≡ cond (eqb (start_route m s) 0 && not (eqb m 35)) Idle (entered (start_route m s))
unfolding start_of start_route skips main_route
start_tests m s = go (row_of m) refl
  where
    go : (o : Option Row) → row_of m ≡ o
        → start_in m s o ≡ cond (eqb (start_route m s) 0 && not (eqb m 35)) Idle (entered (start_route m s))
    go none e = rw (e, not-35 m e)
    go (some r) e = rw (legs-there m r e (skips m s))
