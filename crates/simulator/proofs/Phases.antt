-- What the number of a phase tells the simulator.
-- Assumes nothing.
use Prim.Native.Nat.{ℕ, ◌^◌}
use mathlib.Core.Path.{◌≡◌, refl, sym, ap}
use mathlib.Core.Bool.{Bool, true, false, false≢true, true≢false, cond}
use mathlib.Core.List.{List}
use mathlib.Core.Option.{some}
use lib.Dec.{eqb, ltb}
use native.Mathlib.Omega.{arith}
use borrow.Author.Tests.{eqb-true, eq-eqb, ne_eqb}
use Rattle.legs.specs.Numbers.{leg_from}
use Rattle.homing.specs.Phase.{Phase, Idle, Running, Homed, Failed, phase_of, running_in}
use Rattle.homing.specs.Moving.{running_leg}
use Rattle.homing.proofs.Phases.{runs}
use Rattle.cells.specs.Cells.{motion_in, axis_in}
use Rattle.simulator.specs.Run.{phase_on, stopped}
use Rattle.simulator.specs.Stretch.{goes_on}

pub a-leg : (n : ℕ) → running_in (phase_of n) ≡ true → running_leg (phase_of n) ≡ some (leg_from n)
a-leg n e = rw (runs n e)

pub same-goes : (p : Phase) → stopped p ≡ false → goes_on p p ≡ true
same-goes Idle e = refl
same-goes (Running n) e = eq-eqb n n refl
same-goes Homed e = absurd (true≢false e)
same-goes Failed e = absurd (true≢false e)

pub goes-unstopped : (p q : Phase) → goes_on p q ≡ true → stopped q ≡ false
goes-unstopped Idle Idle e = refl
goes-unstopped Idle (Running n) e = refl
goes-unstopped Idle Homed e = absurd (false≢true e)
goes-unstopped Idle Failed e = absurd (false≢true e)
goes-unstopped (Running m) Idle e = refl
goes-unstopped (Running m) (Running n) e = refl
goes-unstopped (Running m) Homed e = absurd (false≢true e)
goes-unstopped (Running m) Failed e = absurd (false≢true e)
goes-unstopped Homed q e = absurd (false≢true e)
goes-unstopped Failed q e = absurd (false≢true e)

pub goes-alike : (p q : Phase) → goes_on p q ≡ true → q ≡ p
goes-alike Idle Idle e = refl
goes-alike Idle (Running n) e = absurd (false≢true e)
goes-alike Idle Homed e = absurd (false≢true e)
goes-alike Idle Failed e = absurd (false≢true e)
goes-alike (Running m) Idle e = absurd (false≢true e)
goes-alike (Running m) (Running n) e = ap Running (sym (eqb-true m n e))
goes-alike (Running m) Homed e = absurd (false≢true e)
goes-alike (Running m) Failed e = absurd (false≢true e)
goes-alike Homed q e = absurd (false≢true e)
goes-alike Failed q e = absurd (false≢true e)

pub stopped-stays : (p q : Phase) → stopped p ≡ true → goes_on p q ≡ false
stopped-stays Idle q e = absurd (false≢true e)
stopped-stays (Running n) q e = absurd (false≢true e)
stopped-stays Homed q e = refl
stopped-stays Failed q e = refl

-- two numbers of one leg are one number
pub other-phase : (m n : ℕ) → (n ≡ m → ⊥) → goes_on (phase_of m) (phase_of n) ≡ false
unfolding phase_of
other-phase m n d = go (eqb m 0) refl (ltb m (2 ^ 31)) (eqb m (2 ^ 31)) (eqb n 0) refl (ltb n (2 ^ 31)) (eqb n (2 ^ 31))
  where
    go : (z : Bool) → eqb m 0 ≡ z → (b t : Bool) → (z' : Bool) → eqb n 0 ≡ z' → (b' t' : Bool)
        → goes_on (cond z Idle (cond b (Running m) (cond t Homed Failed))) (cond z' Idle (cond b' (Running n) (cond t' Homed Failed))) ≡ false
    go true e b t true f b' t' = absurd (d (omega (arith, eqb-true m 0 e, eqb-true n 0 f)))
    go true e b t false f true t' = refl
    go true e b t false f false true = refl
    go true e b t false f false false = refl
    go false e true t true f b' t' = refl
    go false e true t false f true t' = ne_eqb m n (λ q. d (sym q))
    go false e true t false f false true = refl
    go false e true t false f false false = refl
    go false e false true z' f b' t' = refl
    go false e false false z' f b' t' = refl

-- the phase that lent words mean
pub phase-on : (l : List ℕ) → phase_on (axis_in l) ≡ (motion_in l).phase
unfolding axis_in
phase-on l = refl
