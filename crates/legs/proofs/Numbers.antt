-- The code's test of a route's number is the definitions' of its first leg.
-- Assumes nothing.
use mathlib.Core.Path.{◌≡◌, refl}
use mathlib.Core.Bool.{Bool, true, false, not, ◌&&◌}
use Prim.Native.Nat.{ℕ, zero, suc, ◌%◌, ◌<◌}
use native.Mathlib.Omega.{arith}
use Rattle.counts.specs.Bit.{bit_of}
use Rattle.legs.specs.declared.events.Seen.{Seen}
use Rattle.legs.specs.Events.{switches_in, view_of, along, happens, switch_of, event_counts}
use Rattle.legs.specs.Numbers.{forward_in, trigger_in, switch_at, leg_from}

-- the switch at a place is the bit there
switch-bit : (forward : Bool) (place bits : ℕ) → place < 4 → switch_of (switch_at forward place) forward (switches_in bits) ≡ bit_of bits place
switch-bit true zero bits h = refl
switch-bit false zero bits h = refl
switch-bit true (suc zero) bits h = refl
switch-bit false (suc zero) bits h = refl
switch-bit forward (suc (suc zero)) bits h = refl
switch-bit forward (suc (suc (suc zero))) bits h = refl
switch-bit forward (suc (suc (suc (suc place)))) bits h = absurd (omega arith)

module _ (n : ℕ) (s : Seen) where
  pub event_test : not s.halted
      && happens (trigger_in n) (along (forward_in n) s.movement) (bit_of s.before (n % 4)) (bit_of s.now (n % 4))
      ≡ event_counts (leg_from n) (view_of s)
  unfolding event_counts
  event_test = rw (switch-bit (forward_in n) (n % 4) s.before (omega arith), switch-bit (forward_in n) (n % 4) s.now (omega arith))
