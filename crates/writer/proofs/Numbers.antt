-- The writer gives the number of the first case that holds, and accepts exactly the acceptable settings that the layout holds.
-- Assumes nothing.
use Rattle.std.specs.Prelude.{Err, Ok}
use mathlib.Core.Path.{◌≡◌, refl, sym, ◌∙◌}
use mathlib.Core.Bool.{Bool, true, false, cond, not, ◌&&◌, ◌||◌, and-false, false≢true}
use mathlib.Core.Logic.{◌↔◌}
use borrow.Author.Tests.{le-ltb}
use lib.Dec.{eqb}
use lib.ListN.{length}
use Rattle.settings.specs.declared.Refusal.TheVariants.{UnknownLayout, BufferTooShort, LongValue, HomingTorqueLost}
use Rattle.settings.specs.Refusal.{verdict_number, first_of}
use Rattle.settings.specs.Ranges.{positions_fit}
use Rattle.settings.proofs.Within.{both}
use Rattle.layouts.specs.Layout.{is_layout, long_value, carries_homing_torque, homing_is_maximum, homing_torque_lost}
use Rattle.checks.specs.Check.{acceptable, verdict_of}
use Rattle.checks.specs.Cases as checks
use Rattle.checks.proofs.Numbers.{check-number, refused-accepted, accepts}
use Rattle.checks.proofs.Sends.{positions-32}
use Rattle.writer.specs.Write.{needed, buffer_too_short, write_verdict}
use Rattle.writer.specs.Cases.{Numbers, AcceptsExactly}

pub write-number : Numbers
unfolding write_verdict
write-number layout s buffer = go (not (is_layout layout)) (buffer_too_short layout buffer) (long_value layout s) (homing_torque_lost layout s)
  where
    go : (a b c d : Bool)
        → verdict_number
        (cond a (Err UnknownLayout) (cond b (Err BufferTooShort) (cond c (Err LongValue) (cond d (Err HomingTorqueLost) (verdict_of s)))))
        ≡ cond a 2 (cond b 9 (cond c 10 (cond d 11 (first_of (checks.tests_of s)))))
    go true b c d = refl
    go false true c d = refl
    go false false true d = refl
    go false false false true = refl
    go false false false false = check-number s

pub accepts-exactly : AcceptsExactly
unfolding write_verdict
accepts-exactly layout s buffer h =
    rw (le-ltb (length buffer) (needed layout) h) (go (is_layout layout) (eqb layout 1) (positions_fit 28 s) refl (carries_homing_torque layout) (homing_is_maximum s))
  where
    -- 32 bits hold all that is acceptable
    wide : (verdict_of s ≡ Ok tt) ↔ (positions_fit 32 s && true && acceptable s ≡ true)
    wide = (λ e. let a = (accepts s).0 e in rw (positions-32 s a, a), λ e. (accepts s).1 (both (positions_fit 32 s && true) (acceptable s) e).1)

    -- b: layout 1, f: its 28 bits are enough, c: the layout carries a homing torque, m: that is the maximum
    go : (k b f : Bool) → positions_fit 28 s ≡ f → (c m : Bool)
        → (cond (not k) (Err UnknownLayout) (cond (b && not f) (Err LongValue) (cond (not c && not m) (Err HomingTorqueLost) (verdict_of s))) ≡ Ok tt)
        ↔ (k && (positions_fit (cond b 28 32) s && (c || m)) && acceptable s ≡ true)
    go false b f p c m = (refused-accepted UnknownLayout, λ e. absurd (false≢true e))
    go true true false p c m = rw p (refused-accepted LongValue, λ e. absurd (false≢true e))
    go true true true p true m = rw p (accepts s)
    go true true true p false true = rw p (accepts s)
    go true true true p false false = rw p (refused-accepted HomingTorqueLost, λ e. absurd (false≢true e))
    go true false f p true m = wide
    go true false f p false true = wide
    go true false f p false false = (refused-accepted HomingTorqueLost, λ e. absurd (false≢true (sym (and-false (positions_fit 32 s)) ∙ (both _ (acceptable s) e).0)))
