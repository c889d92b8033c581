-- The signed numbers of every answer fit 32 bits, so that it reads back from its words. The guards of torque caps and speeds make it so for any
-- settings.
-- Assumes nothing.
use Rattle.std.specs.Prelude.{None, Option, Some, ℤ}
use Prim.Native.Nat.{ℕ, zero, suc, ◌^◌, ◌<◌}
use mathlib.Core.Path.{◌≡◌, refl, sym}
use mathlib.Core.Bool.{Bool, true, false, cond, false≢true}
use native.Mathlib.Omega.{arith}
use borrow.Author.Tests.{ltb-false}
use lib.IntN.{ℤ, pos, negsuc, neg_ℤ}
use lib.Signed.{mag, lt_z}
use Rattle.counts.specs.Bit.{bit_of}
use Rattle.counts.specs.Clamp.{clamped}
use Rattle.counts.specs.Fits.{fits}
use Rattle.counts.proofs.Fits.{mag-fits, i32-fits}
use Rattle.counts.proofs.Integers.{mag-neg-pos}
use Rattle.counts.proofs.Modulo.{wrapped-fits}
use Rattle.settings.specs.declared.Settings.{Settings}
use Rattle.modes.specs.declared.Mode.{Mode}
use Rattle.modes.specs.declared.Mode.TheVariants.{None, Hybrid, Homing, Position, Torque}
use Rattle.modes.specs.Modes.{mode_number}
use Rattle.commands.specs.Commands.{whole_demand}
use Rattle.torque.specs.declared.LimitSet.{LimitSet}
use Rattle.torque.specs.Limits.{positive_cap, negative_cap, guarded}
use Rattle.torque.specs.Torque.{torque_of}
use Rattle.position.specs.Position.{count_of, position_of}
use Rattle.ticks.specs.declared.Tick.{Tick}
use Rattle.ticks.specs.Motion.{Motion}
use Rattle.ticks.specs.Rules.{demand_in}
use Rattle.ticks.specs.After.{motion_after}
use Rattle.answers.specs.Answer.{followed_in, torque_on, answer_in, answered_in}
use Rattle.rules.specs.Axis.{Active, Set, Axis}
use Rattle.rules.specs.Axis as rules
use Rattle.rules.specs.Tick.{tick_under, tick_of}
use Rattle.demands.proofs.Speeds.{speed-small}
use Rattle.records.specs.Back.{AnswerFits}
use Rattle.records.proofs.Back.{answers-read-back}
use Rattle.exports.specs.Back.{AllAnswersReadBack}

-- ---- what fits

small : (z : ℤ) → mag z < 2 ^ 31 → fits 32 z ≡ true
small z h = mag-fits false z h

-- a number not below −n and not above p
inside : (z : ℤ) (n p : ℕ) → n < 2 ^ 31 → p < 2 ^ 31 → lt_z z (neg_ℤ (pos n)) ≡ false → lt_z (pos p) z ≡ false → mag z < 2 ^ 31
inside (pos m) n p h k a b = omega (arith, ltb-false p m b)
inside (negsuc m) zero p h k a b = absurd (false≢true (sym a))
inside (negsuc m) (suc n) p h k a b = omega (arith, ltb-false n m a)

held : (z : ℤ) (n p : ℕ) → n < 2 ^ 31 → p < 2 ^ 31 → mag (clamped z (neg_ℤ (pos n)) (pos p)) < 2 ^ 31
unfolding clamped
held z n p h k = go (lt_z z (neg_ℤ (pos n))) refl (lt_z (pos p) z) refl
  where
    go : (a : Bool) → lt_z z (neg_ℤ (pos n)) ≡ a → (b : Bool) → lt_z (pos p) z ≡ b → mag (cond a (neg_ℤ (pos n)) (cond b (pos p) z)) < 2 ^ 31
    go true e b f = omega (arith, mag-neg-pos n)
    go false e true f = k
    go false e false f = inside z n p h k e f

torque-small : (s : Settings) (mode : Mode) (set : LimitSet) (on : Bool) (demand : ℤ) → mag (torque_of s mode set on demand) < 2 ^ 31
unfolding torque_of
torque-small s mode set true demand =
    held demand (guarded (negative_cap s mode set)) (guarded (positive_cap s mode set)) (omega arith) (omega arith)
torque-small s mode set false demand = omega arith

count_fits : (s : Settings) (home : ℤ) (f : Option ℤ) (actual : ℤ) → fits 32 actual ≡ true → fits 32 (position_of s home f actual) ≡ true
unfolding count_of
count_fits s home (Some target) actual e = i32-fits (wrapped-fits _)
count_fits s home None actual e = e

mode-fits : (m : Mode) → fits 32 (mode_number m) ≡ true
unfolding fits
mode-fits None = refl
mode-fits Hybrid = refl
mode-fits Homing = refl
mode-fits Position = refl
mode-fits Torque = refl

-- ---- an answer

answer-fits : (s : Settings) (t : Tick) (a : Motion) → fits 32 t.position ≡ true → AnswerFits (answer_in s t a)
unfolding answer_in
answer-fits s t a e =
    record {
      torque = small _ (torque-small s a.mode t.set (torque_on t a) (whole_demand (demand_in s t)));
      speed = small _ (speed-small s a.phase (bit_of t.control 8));
      position = count_fits s a.home (followed_in t a) t.position e;
      mode = mode-fits a.mode;
    }

all-answers-fit : (a : Axis) (t : Tick) → fits 32 t.position ≡ true → AnswerFits (tick_of a t).answer
unfolding tick_of answered_in
all-answers-fit a t e = go a.active
  where
    go : (x : Active) → AnswerFits (tick_under x a t).answer
    go rules.Nothing = let e = small (pos 0) (omega arith) in record { torque = e; speed = e; position = e; mode = e }
    go (Set s) = answer-fits s t (motion_after s a.motion t) e

pub all-answers-read-back : AllAnswersReadBack
all-answers-read-back a t e = answers-read-back (tick_of a t).answer (all-answers-fit a t e)
