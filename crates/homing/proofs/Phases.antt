-- What a number says of the phase that it means.
-- Assumes nothing.
use mathlib.Core.Path.{◌≡◌, refl}
use mathlib.Core.Bool.{Bool, true, false, not, cond, ◌&&◌, true≢false, false≢true}
use Prim.Native.Nat.{ℕ, ◌^◌, ◌<◌}
use native.Mathlib.Omega.{arith}
use lib.Dec.{eqb, ltb}
use borrow.Author.Tests.{eqb-true, eqb-false, ltb-true, ltb-false, lt-ltb, le-ltb, ne_eqb}
use Rattle.homing.specs.Phase.{Phase, Idle, Running, Homed, Failed, phase_of, homed_in, running_in, failed_in}

-- a route runs
pub running : (n : ℕ) → (n ≡ 0 → ⊥) → n < 2 ^ 31 → phase_of n ≡ Running n
unfolding phase_of
running n z h = rw (ne_eqb n 0 z, lt-ltb n (2 ^ 31) h)

-- the code's tests of a phase, in which no number that is 0 or below 2 ^ 31 is 2 ^ 31
module _ (n : ℕ) where
  abbrev by : Bool → Bool → Bool → Phase
  by zero below top = cond zero Idle (cond below (Running n) (cond top Homed Failed))

  at_zero : eqb n 0 ≡ true → (ltb n (2 ^ 31) ≡ true) × (eqb n (2 ^ 31) ≡ false)
  at_zero e = let z = eqb-true n 0 e in (lt-ltb n (2 ^ 31) (omega arith), ne_eqb n (2 ^ 31) (λ p. omega arith))

  at_top : ltb n (2 ^ 31) ≡ true → eqb n (2 ^ 31) ≡ false
  at_top e = let h = ltb-true n (2 ^ 31) e in ne_eqb n (2 ^ 31) (λ p. omega arith)

  pub running_test : not (eqb n 0) && ltb n (2 ^ 31) ≡ running_in (phase_of n)
  unfolding phase_of
  running_test = go (eqb n 0) (ltb n (2 ^ 31)) (eqb n (2 ^ 31))
    where
      go : (zero below top : Bool) → not zero && below ≡ running_in (by zero below top)
      go true below top = refl
      go false true top = refl
      go false false true = refl
      go false false false = refl

  pub homed_test : eqb n (2 ^ 31) ≡ homed_in (phase_of n)
  unfolding phase_of
  homed_test = go (eqb n 0) (ltb n (2 ^ 31)) (eqb n (2 ^ 31)) (λ e. (at_zero e).1) at_top
    where
      go : (zero below top : Bool) → (zero ≡ true → top ≡ false) → (below ≡ true → top ≡ false) → top ≡ homed_in (by zero below top)
      go true below top f g = f refl
      go false true top f g = g refl
      go false false true f g = refl
      go false false false f g = refl

  pub failed_test : ltb (2 ^ 31) n ≡ failed_in (phase_of n)
  unfolding phase_of
  failed_test = go (eqb n 0) refl (ltb n (2 ^ 31)) refl (eqb n (2 ^ 31)) refl
    where
      go : (zero : Bool) → eqb n 0 ≡ zero → (below : Bool) → ltb n (2 ^ 31) ≡ below → (top : Bool) → eqb n (2 ^ 31) ≡ top
          → ltb (2 ^ 31) n ≡ failed_in (by zero below top)
      go true z below b top t = let e = eqb-true n 0 z in le-ltb (2 ^ 31) n (omega arith)
      go false z true b top t = let h = ltb-true n (2 ^ 31) b in le-ltb (2 ^ 31) n (omega arith)
      go false z false b true t = let e = eqb-true n (2 ^ 31) t in le-ltb (2 ^ 31) n (omega arith)
      go false z false b false t = let h = ltb-false n (2 ^ 31) b in let e = eqb-false n (2 ^ 31) t in lt-ltb (2 ^ 31) n (omega (arith, h, e))

-- a phase in which a leg runs, and any other
module _ (n : ℕ) where
  pub runs : running_in (phase_of n) ≡ true → phase_of n ≡ Running n
  unfolding phase_of
  runs = go (eqb n 0) (ltb n (2 ^ 31)) (eqb n (2 ^ 31))
    where
      go : (zero below top : Bool) → running_in (by n zero below top) ≡ true → by n zero below top ≡ Running n
      go true below top e = absurd (false≢true e)
      go false true top e = refl
      go false false true e = absurd (false≢true e)
      go false false false e = absurd (false≢true e)

  pub rests : (P : Phase → Type 0) → P Idle → P Homed → P Failed → running_in (phase_of n) ≡ false → P (phase_of n)
  unfolding phase_of
  rests P idle homed failed = go (eqb n 0) (ltb n (2 ^ 31)) (eqb n (2 ^ 31))
    where
      go : (zero below top : Bool) → running_in (by n zero below top) ≡ false → P (by n zero below top)
      go true below top e = idle
      go false true top e = absurd (true≢false e)
      go false false true e = homed
      go false false false e = failed
