-- What is written as a word reads back.
-- Assumes nothing.
use Prim.Native.Nat.{suc, ◌+◌, ◌-◌, ◌%◌, ◌^◌, ◌<◌}
use mathlib.Core.Path.{◌≡◌, refl, ap}
use mathlib.Core.Bool.{Bool, true, false}
use native.Mathlib.Omega.{arith}
use borrow.Author.Tests.{lt-ltb, le-ltb}
use lib.IntN.{ℤ, pos, negsuc}
use lib.Signed.{mag}
use Rattle.counts.specs.Wrap.{modulo, signed, wrapped}
use Rattle.legs.specs.declared.events.Switches.{Switches}
use Rattle.legs.specs.Events.{switches_in}
use Rattle.states.specs.declared.State.{State}
use Rattle.states.specs.declared.State.TheVariants.{NotReady, SwitchOnDisabled, Ready, SwitchedOn, OperationEnabled, QuickStopActive, FaultReaction, Fault}
use Rattle.states.specs.States.{state_number}
use Rattle.modes.specs.declared.Mode.{Mode}
use Rattle.modes.specs.declared.Mode.TheVariants.{None, Hybrid, Homing, Position, Torque}
use Rattle.modes.specs.Modes.{mode_ordinal}
use Rattle.patterns.specs.Patterns.{weighed, switch_bits, state_at, mode_at}

pub signed_back : (z : ℤ) → mag z < 2 ^ 31 → wrapped (pos (modulo 32 z)) ≡ z
unfolding modulo signed wrapped
signed_back (pos n) h = let e : n % 2 ^ 32 % 2 ^ 32 ≡ n = omega arith in rw (e, lt-ltb n (2 ^ 31) h)
signed_back (negsuc n) h =
    let e : (2 ^ 32 - suc (n % 2 ^ 32)) % 2 ^ 32 ≡ 2 ^ 32 - suc n = omega arith in
    rw (e, le-ltb (2 ^ 32 - suc n) (2 ^ 31) (omega arith), lt-ltb (2 ^ 32 - suc n) (2 ^ 32) (omega arith)) (ap negsuc (omega arith))

bits_of : (a b c d : Bool) → switches_in (weighed a 1 + weighed b 2 + weighed c 4 + weighed d 8) ≡ record { positive = a; negative = b; home = c; index = d }
bits_of true true true true = refl
bits_of true true true false = refl
bits_of true true false true = refl
bits_of true true false false = refl
bits_of true false true true = refl
bits_of true false true false = refl
bits_of true false false true = refl
bits_of true false false false = refl
bits_of false true true true = refl
bits_of false true true false = refl
bits_of false true false true = refl
bits_of false true false false = refl
bits_of false false true true = refl
bits_of false false true false = refl
bits_of false false false true = refl
bits_of false false false false = refl

pub bits_back : (s : Switches) → switches_in (switch_bits s) ≡ s
bits_back s = bits_of s.positive s.negative s.home s.index

pub state-back : (s : State) → state_at (state_number s) ≡ s
unfolding state_at
state-back NotReady = refl
state-back SwitchOnDisabled = refl
state-back Ready = refl
state-back SwitchedOn = refl
state-back OperationEnabled = refl
state-back QuickStopActive = refl
state-back FaultReaction = refl
state-back Fault = refl

pub mode-back : (m : Mode) → mode_at (mode_ordinal m) ≡ m
unfolding mode_at
mode-back None = refl
mode-back Hybrid = refl
mode-back Homing = refl
mode-back Position = refl
mode-back Torque = refl
