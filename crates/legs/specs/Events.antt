-- 01, "Homing routes", and 02, (i) and (ii): when a leg's event counts in a tick, and when a limit does.
-- Assumes nothing.
use Rattle.std.specs.Prelude.{ℕ, ◌+◌, Bool, true, false, cond, not, ◌&&◌}
use Rattle.counts.specs.Bit.{bit_of, rises}
use Rattle.counts.specs.declared.Movement.{Movement}
use Rattle.counts.specs.declared.Movement.TheVariants.{Backward, Still, Forward}
use Rattle.legs.specs.declared.events.Switches.{Switches}
use Rattle.legs.specs.declared.events.Seen.{Seen}
use Rattle.legs.specs.Legs.{Switch, Home, Index, LimitAhead, LimitBehind, Trigger, Rise, Drop, On, Leg}

abbrev pub all_off : Switches
all_off = record { positive = false; negative = false; home = false; index = false }

-- four switches as a word's low bits, in the order POT, NOT, HOM, Z
abbrev pub switches_in : ℕ → Switches
switches_in bits = record { positive = bit_of bits 0; negative = bit_of bits 1; home = bit_of bits 2; index = bit_of bits 3 }

-- and back: the word of four switches, which `switches_in` reads
abbrev pub weighed : Bool → ℕ → ℕ
weighed on weight = cond on weight 0

abbrev pub switch_bits : Switches → ℕ
switch_bits s = weighed s.positive 1 + weighed s.negative 2 + weighed s.home 4 + weighed s.index 8

-- what homing sees of one tick after the start. kept: control bit 4 is set, homing is matched and the new state is Operation enabled;
-- before and now: the remembered switches and this tick's
pub record View : Type 0 where
  pub kept : Bool
  pub halted : Bool
  pub movement : Movement
  pub before : Switches
  pub now : Switches

-- the same, with the switches as the code holds them
abbrev pub view_of : Seen → View
view_of s =
    record { kept = s.kept; halted = s.halted; movement = s.movement; before = switches_in s.before; now = switches_in s.now }

-- the movement "has the leg's sign"
abbrev pub along : Bool → Movement → Bool
along forward Backward = not forward
along forward Still = false
along forward Forward = forward

abbrev pub drops : Bool → Bool → Bool
drops before now = rises now before

-- the limit "in travel direction": POT ahead of a forward leg, NOT ahead of a backward one
abbrev pub limit_ahead : Bool → Switches → Bool
limit_ahead true s = s.positive
limit_ahead false s = s.negative

abbrev pub switch_of : Switch → Bool → Switches → Bool
switch_of Home forward s = s.home
switch_of Index forward s = s.index
switch_of LimitAhead forward s = limit_ahead forward s
switch_of LimitBehind forward s = limit_ahead (not forward) s

-- the switch that a leg awaits
abbrev pub awaited : Leg → Switches → Bool
awaited l s = switch_of l.event.switch l.forward s

-- moved: the movement has the leg's sign. "A rise or drop compares with the remembered switch" and counts by movement, a limit's "as HOM's do"
-- (02, (i)); but a leg that awaits the limit ahead "ends by it being on, with no movement needed" (02, (ii)).
abbrev pub happens : Trigger → Bool → Bool → Bool → Bool
happens Rise moved before now = moved && rises before now
happens Drop moved before now = moved && drops before now
happens On moved before now = now

-- the leg's event counts: "With bit 8 (halt) set nothing counts."
unfoldable pub event_counts : Leg → View → Bool
event_counts l v =
    not v.halted && happens l.event.trigger (along l.forward v.movement) (awaited l v.before) (awaited l v.now)

-- "after the start tick and outside halt, a limit in the travel direction counts whenever it is on" (02, (ii)). "The leg's own event still comes
-- first" is said where both are asked (`Ends` and `Turns`, `advance`, `running_of`); so a leg that awaits L ends by it, and it is "no homing error".
unfoldable pub limit_counts : Leg → View → Bool
limit_counts l v = not v.halted && limit_ahead l.forward v.now
