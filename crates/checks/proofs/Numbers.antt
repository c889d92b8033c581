-- `check` gives the number of the first case that holds, and accepts exactly the acceptable.
-- Assumes nothing.
use Rattle.std.specs.Prelude.{Err, Ok}
use Prim.Native.Nat.{ℕ}
use mathlib.Core.Path.{◌≡◌, refl}
use mathlib.Core.Bool.{Bool, true, false, cond, not, ◌&&◌, false≢true}
use mathlib.Core.Logic.{◌↔◌}
use native.Mathlib.Omega.{arith}
use Rattle.settings.specs.declared.Settings.{Settings}
use Rattle.settings.specs.declared.Refusal.{Refusal}
use Rattle.settings.specs.declared.Refusal.TheVariants.{OutOfRange, LimitsCrossed, OutOfReach}
use Rattle.settings.specs.Refusal.{Verdict, verdict_number, first_of}
use Rattle.settings.specs.Ranges.{in_range}
use Rattle.gears.specs.Gear.{in_reach}
use Rattle.checks.specs.Check.{limits_apart, acceptable, limits_verdict, verdict_of}
use Rattle.checks.specs.Cases.{limit_tests, Numbers}

-- tests 5 and 6
pub limits-number : (s : Settings) → verdict_number (limits_verdict s) ≡ first_of (limit_tests s)
unfolding limits_verdict
limits-number s = go (limits_apart s) (in_reach s)
  where
    go : (a b : Bool) → verdict_number (cond a (cond b (Ok tt) (Err OutOfReach)) (Err LimitsCrossed)) ≡ cond (not a) 5 (cond (not b) 6 0)
    go true true = refl
    go true false = refl
    go false b = refl

-- tests 3, 5 and 6
pub check-number : Numbers
unfolding verdict_of
check-number s = go (in_range s)
  where
    go : (a : Bool) → verdict_number (cond a (limits_verdict s) (Err OutOfRange)) ≡ cond (not a) 3 (first_of (limit_tests s))
    go true = limits-number s
    go false = refl

-- accepted, and only then
pub refused-accepted : {X : Type 0} (r : Refusal) → ◌≡◌ {A = Verdict} (Err r) (Ok tt) → X
refused-accepted r e = let z : ◌≡◌ {A = ℕ} 0 1 = cc in absurd (omega arith)

pub accepts : (s : Settings) → (verdict_of s ≡ Ok tt) ↔ (acceptable s ≡ true)
unfolding verdict_of limits_verdict acceptable
accepts s = go (in_range s) (limits_apart s) (in_reach s)
  where
    go : (a b c : Bool) → ◌≡◌ {A = Verdict} (cond a (cond b (cond c (Ok tt) (Err OutOfReach)) (Err LimitsCrossed)) (Err OutOfRange)) (Ok tt) ↔ (a && b && c ≡ true)
    go true true true = (λ e. refl, λ e. refl)
    go true true false = (refused-accepted OutOfReach, λ e. absurd (false≢true e))
    go true false c = (refused-accepted LimitsCrossed, λ e. absurd (false≢true e))
    go false b c = (refused-accepted OutOfRange, λ e. absurd (false≢true e))

-- what acceptable settings pass, one by one, and back
pub record Passes (s : Settings) : Type 0 where
  pub range : in_range s ≡ true
  pub limits : limits_verdict s ≡ Ok tt

pub passes : (s : Settings) → acceptable s ≡ true → Passes s
unfolding verdict_of
passes s e = go (in_range s) refl ((accepts s).1 e)
  where
    go : (a : Bool) → in_range s ≡ a → cond a (limits_verdict s) (Err OutOfRange) ≡ Ok tt → Passes s
    go true p v = record { range = p; limits = v }
    go false p v = refused-accepted OutOfRange v

pub acceptable-of : (s : Settings) → in_range s ≡ true → limits_verdict s ≡ Ok tt → acceptable s ≡ true
unfolding verdict_of
acceptable-of s r l = (accepts s).0 (rw r l)
