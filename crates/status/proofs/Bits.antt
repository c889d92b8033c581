-- What single bits of the statusword say: 8 is homed, 11 is that a limit is active, and in homing mode 12 is homed too.
-- Assumes nothing.
use Prim.Native.Nat.{ℕ, ◌+◌, ◌*◌, ◌/◌, ◌%◌, ◌^◌, ◌<◌}
use mathlib.Core.Path.{◌≡◌, refl, ◌∙◌}
use mathlib.Core.Bool.{Bool, true, false, ◌||◌}
use native.Mathlib.Omega.{arith}
use borrow.Author.Tests.{eq-eqb, ne_eqb}
use lib.Dec.{lit<}
use Rattle.counts.specs.Bit.{bit_of}
use Rattle.states.specs.declared.State.{State}
use Rattle.states.specs.declared.State.TheVariants.{NotReady, SwitchOnDisabled, Ready, SwitchedOn, OperationEnabled, QuickStopActive, FaultReaction, Fault}
use Rattle.states.specs.Status.{status_of}
use Rattle.modes.specs.declared.Mode.{Mode}
use Rattle.modes.specs.declared.Mode.TheVariants.{Homing}
use Rattle.status.specs.Statusword.{Flags, weight_of, reached_of, attained_or_following, homing_error_of, statusword_of}

-- the drive's bits stay below bit 10, and bit 8 is none of them
pub status-low : (s : State) → (status_of s < 1024) × (status_of s / 2 ^ 8 % 2 ≡ 0)
status-low NotReady = (lit< tt, refl)
status-low SwitchOnDisabled = (lit< tt, refl)
status-low Ready = (lit< tt, refl)
status-low SwitchedOn = (lit< tt, refl)
status-low OperationEnabled = (lit< tt, refl)
status-low QuickStopActive = (lit< tt, refl)
status-low FaultReaction = (lit< tt, refl)
status-low Fault = (lit< tt, refl)

-- a weight is one times the flag
factor : (b : Bool) (w : ℕ) → weight_of b w ≡ weight_of b 1 * w
factor true w = omega arith
factor false w = omega arith

one : (b : Bool) → weight_of b 1 < 2
one true = lit< tt
one false = lit< tt

-- a bit that is the flag's
shown : (b : Bool) (n k : ℕ) → n / 2 ^ k % 2 ≡ weight_of b 1 → bit_of n k ≡ b
shown true n k e = eq-eqb (n / 2 ^ k % 2) 1 e
shown false n k e = ne_eqb (n / 2 ^ k % 2) 1 (λ f. omega arith)

-- the sum, with each weight a multiple
module _ (s a b c d e : ℕ) where
  abbrev word : ℕ
  word = s + a * 2 ^ 8 + b * 2 ^ 10 + c * 2 ^ 11 + d * 2 ^ 12 + e * 2 ^ 13

  bit-8 : s < 1024 → s / 2 ^ 8 % 2 ≡ 0 → a < 2 → word / 2 ^ 8 % 2 ≡ a
  bit-8 h k l = omega arith

  bit-11 : s < 1024 → s / 2 ^ 8 % 2 ≡ 0 → a < 2 → b < 2 → c < 2 → word / 2 ^ 11 % 2 ≡ c
  bit-11 h k la lb lc = omega arith

  bit-12 : s < 1024 → s / 2 ^ 8 % 2 ≡ 0 → a < 2 → b < 2 → c < 2 → d < 2 → word / 2 ^ 12 % 2 ≡ d
  bit-12 h k la lb lc ld = omega arith

module _ (s : State) (mode : Mode) (f : Flags) where
  -- the statusword in that form
  abbrev flag : Bool → ℕ
  flag b = weight_of b 1

  abbrev parts : ℕ
  parts =
      word (status_of s) (flag f.homed) (flag (reached_of mode f)) (flag f.limited) (flag (attained_or_following mode f)) (flag (homing_error_of mode f))

  in_parts : statusword_of s mode f ≡ parts
  unfolding statusword_of
  in_parts =
      rw (
        factor f.homed (2 ^ 8),
        factor (reached_of mode f) (2 ^ 10),
        factor f.limited (2 ^ 11),
        factor (attained_or_following mode f) (2 ^ 12),
        factor (homing_error_of mode f) (2 ^ 13),
      )

  pub bit-8-homed : bit_of (statusword_of s mode f) 8 ≡ f.homed
  bit-8-homed =
      let l = status-low s in
      rw in_parts (shown f.homed parts 8 (bit-8 _ _ _ _ _ _ l.0 l.1 (one f.homed)))

  pub bit-11-limited : bit_of (statusword_of s mode f) 11 ≡ f.limited
  bit-11-limited =
      let l = status-low s in
      rw in_parts (shown f.limited parts 11 (bit-11 _ _ _ _ _ _ l.0 l.1 (one f.homed) (one (reached_of mode f)) (one f.limited)))

  bit-12-shown : bit_of (statusword_of s mode f) 12 ≡ attained_or_following mode f
  bit-12-shown =
      let l = status-low s in
      rw in_parts
      (shown (attained_or_following mode f) parts 12
      (bit-12 _ _ _ _ _ _ l.0 l.1 (one f.homed) (one (reached_of mode f)) (one f.limited) (one (attained_or_following mode f))))

or-false : (b : Bool) → b || false ≡ b
or-false true = refl
or-false false = refl

pub bit-12-homed : (s : State) (f : Flags) → bit_of (statusword_of s Homing f) 12 ≡ f.homed
bit-12-homed s f = bit-12-shown s Homing f ∙ or-false f.homed
