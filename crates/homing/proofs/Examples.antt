-- Closed lists of ticks that complete a route, and lists that do not, each computed: of every method, as 01's reading of the routes has
-- them, which no answer shows. The rehearsed example, bit 4 and halt stand in demands/specs/Examples.antt.
-- Assumes nothing.
use mathlib.Core.Path.{◌≡◌, refl, sym, ◌∙◌}
use mathlib.Core.Bool.{Bool, true, false, false≢true}
use mathlib.Core.List.{List, [], ◌∷◌, map, head-eq_of_cons-eq, tail-eq_of_cons-eq}
use Prim.Native.Nat.{ℕ}
use lib.IntN.{pos, ◌-ℤ◌}
use Rattle.counts.specs.Wrap.{modulo, signed, wrapped}
use Rattle.counts.specs.Movement.{movement_of}
use Rattle.legs.specs.declared.events.Switches.{Switches}
use Rattle.legs.specs.Events.{View, all_off, switches_in, event_counts, limit_counts}
use Rattle.legs.specs.Routes.{row_of, plan_of}
use Rattle.homing.specs.Complete.{CompletesPlan}
use Rattle.legs.specs.Numbers.{main_route, turn_route, skip_route, skips, start_route}
use Rattle.homing.specs.Phase.{homed_in}
use Rattle.homing.specs.Steps.{running_of, start_of, step_all}
use Rattle.homing.proofs.Simulation.{homing-iff}

abbrev off : Switches
off = all_off

abbrev home : Switches
home = switches_in 4

abbrev index : Switches
index = switches_in 8

abbrev positive : Switches
positive = switches_in 1

abbrev negative : Switches
negative = switches_in 2

abbrev home_and_positive : Switches
home_and_positive = switches_in 5

abbrev home_and_negative : Switches
home_and_negative = switches_in 6

abbrev both_limits : Switches
both_limits = switches_in 3

abbrev index_and_positive : Switches
index_and_positive = switches_in 9

abbrev index_and_negative : Switches
index_and_negative = switches_in 10

-- a later tick: its position and switches, with bit 4 set and bit 8 clear
pub data Tick : Type 0 where
  at : ℕ → Switches → Tick

-- the ticks after a start at a position, as homing sees them
abbrev views : ℕ → Switches → List Tick → List View
views p s [] = []
views p s (at q t ∷ ts) =
    record { kept = true; halted = false; movement = movement_of (wrapped (pos q -ℤ pos p)); before = s; now = t } ∷ views q t ts

-- a start of a method at a position with some switches, and the ticks after it
pub record Example : Type 0 where
  pub method : ℕ
  pub position : ℕ
  pub switches : Switches
  pub ticks : List Tick

abbrev start : ℕ → ℕ → Switches → List Tick → Example
start method position switches ticks = record { method = method; position = position; switches = switches; ticks = ticks }

abbrev watched : Example → List View
watched e = views e.position e.switches e.ticks

abbrev Completes : Example → Type 0
Completes e = CompletesPlan (plan_of e.method e.switches) (watched e)

abbrev homes : Example → Bool
homes e = homed_in (step_all (start_of e.method e.switches) e.method (watched e))

abbrev AllComplete : List Example → Type 0
AllComplete [] = Unit
AllComplete (e ∷ es) = Completes e × AllComplete es

abbrev NoneCompletes : List Example → Type 0
NoneCompletes [] = Unit
NoneCompletes (e ∷ es) = (Completes e → ⊥) × NoneCompletes es

all-complete : (es : List Example) → map homes es ≡ map (λ e. true) es → AllComplete es
all-complete [] q = tt
all-complete (e ∷ es) q =
    ((homing-iff e.method e.switches (watched e)).0 (head-eq_of_cons-eq q), all-complete es (tail-eq_of_cons-eq q))

none-completes : (es : List Example) → map homes es ≡ map (λ e. false) es → NoneCompletes es
none-completes [] q = tt
none-completes (e ∷ es) q = (
  λ c. false≢true (sym (head-eq_of_cons-eq q) ∙ (homing-iff e.method e.switches (watched e)).1 c),
  none-completes es (tail-eq_of_cons-eq q),
)

abbrev complete : List Example
complete =
    -- route a
    start 23 100 off (at 110 home ∷ at 108 off ∷ [])
    -- route b: the limit comes on while the axis stands still
    ∷ start 23 100 off (at 120 off ∷ at 120 positive ∷ at 115 home ∷ at 117 off ∷ at 116 home ∷ at 114 off ∷ [])
    -- a limit in the tick of a's event is not looked at
    ∷ start 23 100 off (at 110 home_and_positive ∷ at 108 off ∷ [])
    ∷ start 23 100 positive (at 101 home_and_positive ∷ at 99 off ∷ [])
    -- route c
    ∷ start 23 100 home (at 95 off ∷ [])
    -- 24 to 26: a, b, c
    ∷ start 24 100 off (at 110 home ∷ at 108 off ∷ at 110 home ∷ [])
    ∷ start 24 100 off (at 120 positive ∷ at 115 home ∷ at 112 off ∷ at 114 home ∷ [])
    ∷ start 24 100 home (at 98 off ∷ at 100 home ∷ [])
    ∷ start 25 100 off (at 105 home ∷ at 110 off ∷ at 108 home ∷ [])
    ∷ start 25 100 off (at 120 positive ∷ at 115 home ∷ at 117 off ∷ at 115 home ∷ [])
    ∷ start 25 100 home (at 105 off ∷ at 103 home ∷ [])
    ∷ start 26 100 off (at 110 home ∷ at 108 off ∷ at 110 home ∷ at 112 off ∷ [])
    ∷ start 26 100 off (at 120 positive ∷ at 115 home ∷ at 117 off ∷ [])
    ∷ start 26 100 home (at 105 off ∷ [])
    -- 27 to 30: the same turned
    ∷ start 27 100 off (at 90 home ∷ at 92 off ∷ [])
    ∷ start 27 100 off (at 80 negative ∷ at 85 home ∷ at 83 off ∷ at 85 home ∷ at 87 off ∷ [])
    ∷ start 27 100 home (at 105 off ∷ [])
    ∷ start 28 100 off (at 90 home ∷ at 92 off ∷ at 90 home ∷ [])
    -- route b of 28: NOT turns, and POT is not looked at
    ∷ start 28 100 off (at 95 positive ∷ at 90 negative ∷ at 95 home ∷ at 99 off ∷ at 95 home ∷ [])
    ∷ start 28 100 home (at 102 off ∷ at 100 home ∷ [])
    ∷ start 29 100 off (at 95 home ∷ at 90 off ∷ at 92 home ∷ [])
    ∷ start 29 100 off (at 80 negative ∷ at 85 home ∷ at 83 off ∷ at 85 home ∷ [])
    ∷ start 29 100 home (at 95 off ∷ at 97 home ∷ [])
    ∷ start 30 100 off (at 90 home ∷ at 92 off ∷ at 90 home ∷ at 88 off ∷ [])
    ∷ start 30 100 off (at 80 negative ∷ at 85 home ∷ at 83 off ∷ [])
    ∷ start 30 100 home (at 95 off ∷ [])
    -- 17 and 1, and 18 and 2 turned: from off the limit, and from on it, where the first leg is skipped; HOM plays no part
    ∷ start 17 100 off (at 90 negative ∷ at 92 off ∷ [])
    ∷ start 17 100 negative (at 102 off ∷ [])
    ∷ start 17 100 home (at 90 negative ∷ at 91 home_and_negative ∷ at 92 off ∷ [])
    ∷ start 18 100 off (at 110 positive ∷ at 108 off ∷ [])
    ∷ start 18 100 positive (at 98 off ∷ [])
    ∷ start 1 100 off (at 90 negative ∷ at 92 off ∷ at 93 index ∷ [])
    ∷ start 1 100 negative (at 102 off ∷ at 103 index ∷ [])
    ∷ start 2 100 off (at 110 positive ∷ at 108 off ∷ at 107 index ∷ [])
    ∷ start 2 100 positive (at 98 off ∷ at 97 index ∷ [])
    -- 02, (ii): parked on the limit ahead, the axis turns in the first tick after the start
    ∷ start 23 100 positive (at 100 positive ∷ at 95 home ∷ at 97 off ∷ at 96 home ∷ at 94 off ∷ [])
    ∷ start 27 100 negative (at 100 negative ∷ at 105 home ∷ at 103 off ∷ at 104 home ∷ at 106 off ∷ [])
    -- on in the start tick alone, it counts for nothing; nor does the limit behind, on all along
    ∷ start 23 100 positive (at 101 off ∷ at 110 home ∷ at 108 off ∷ [])
    ∷ start 34 100 negative (at 101 negative ∷ at 102 index_and_negative ∷ [])
    -- the event goes first
    ∷ start 33 100 negative (at 99 index_and_negative ∷ [])
    -- the awaited limit ends its leg without movement, and with movement the other way; skipped by the start, it is the limit behind
    ∷ start 17 100 off (at 100 negative ∷ at 102 off ∷ [])
    ∷ start 18 100 off (at 100 positive ∷ at 98 off ∷ [])
    ∷ start 17 100 off (at 101 negative ∷ at 103 off ∷ [])
    ∷ start 17 100 negative (at 101 negative ∷ at 102 off ∷ [])
    ∷ start 2 100 off (at 100 positive ∷ at 98 off ∷ at 97 index ∷ [])
    -- 33 and 34, whatever HOM is; 35 by the start tick alone
    ∷ start 33 100 off (at 99 index ∷ [])
    ∷ start 33 100 home (at 99 index ∷ [])
    ∷ start 34 100 off (at 99 index ∷ at 100 off ∷ at 101 index ∷ [])
    ∷ start 35 100 off []
    ∷ []

pub examples-complete : AllComplete complete
unfolding row_of main_route turn_route skip_route skips start_route running_of start_of event_counts limit_counts wrapped modulo signed
examples-complete = all-complete complete refl

abbrev incomplete : List Example
incomplete =
    -- a start alone, of a method with legs; a number that is no method
    start 23 100 off []
    ∷ start 33 100 home []
    ∷ start 31 100 off []
    -- no movement
    ∷ start 33 100 off (at 100 index ∷ [])
    -- a limit in any other leg is an error
    ∷ start 33 100 off (at 99 negative ∷ at 98 index ∷ [])
    ∷ start 26 100 home (at 103 home_and_positive ∷ at 105 off ∷ [])
    ∷ start 23 100 off (at 110 home ∷ at 108 home_and_negative ∷ at 103 off ∷ [])
    -- the limit behind does not turn
    ∷ start 23 100 off (at 120 negative ∷ at 115 home ∷ at 117 off ∷ at 116 home ∷ at 114 off ∷ [])
    -- on the limits: a drop while still coasting
    ∷ start 17 100 off (at 90 negative ∷ at 88 off ∷ [])
    ∷ start 18 100 off (at 110 positive ∷ at 112 off ∷ [])
    -- a drop without movement is lost: it does not count by level
    ∷ start 17 100 negative (at 100 off ∷ at 102 off ∷ [])
    ∷ start 18 100 positive (at 100 off ∷ at 98 off ∷ [])
    -- parked on the limit ahead: 23 does not go on along a, and 33 and 34 fail
    ∷ start 23 100 positive (at 105 positive ∷ at 110 home ∷ at 108 off ∷ [])
    ∷ start 33 100 negative (at 99 negative ∷ at 98 index_and_negative ∷ [])
    ∷ start 34 100 positive (at 101 positive ∷ at 102 index_and_positive ∷ [])
    -- the limit ahead is still on when b's third leg begins
    ∷ start 24 100 off (at 120 positive ∷ at 115 home_and_positive ∷ at 112 positive ∷ at 113 positive ∷ at 114 home_and_positive ∷ [])
    -- 1 and 2: the limit ahead is on from the tick in which the other one drops
    ∷ start 1 100 negative (at 102 positive ∷ at 103 positive ∷ at 104 index_and_positive ∷ [])
    ∷ start 2 100 positive (at 98 negative ∷ at 97 negative ∷ at 96 index_and_negative ∷ [])
    -- the wrong switch
    ∷ start 17 100 off (at 90 positive ∷ at 92 off ∷ [])
    ∷ start 18 100 negative (at 98 off ∷ [])
    ∷ start 1 100 home (at 102 off ∷ at 103 index ∷ [])
    -- the other limit, in a later leg, is an error
    ∷ start 17 100 negative (at 102 both_limits ∷ at 104 positive ∷ [])
    ∷ start 2 100 positive (at 98 both_limits ∷ at 96 negative ∷ at 95 index ∷ [])
    -- the third leg is not forgotten, and a rise of Z in the tick of the drop is used up
    ∷ start 1 100 off (at 90 negative ∷ at 92 off ∷ [])
    ∷ start 1 100 negative (at 102 index ∷ at 103 index ∷ [])
    ∷ start 2 100 positive (at 98 index ∷ at 97 index ∷ [])
    ∷ []

pub examples-miss : NoneCompletes incomplete
unfolding row_of main_route turn_route skip_route skips start_route running_of start_of event_counts limit_counts wrapped modulo signed
examples-miss = none-completes incomplete refl
