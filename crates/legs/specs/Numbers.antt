-- A leg as a byte, and a route as a number, a byte a leg, the first one lowest: how the code holds them.
-- Assumes nothing.
use Rattle.std.specs.Prelude.{ℕ, ◌+◌, ◌*◌, ◌/◌, ◌%◌, Bool, true, false, not, cond, ◌||◌, List, [], ◌∷◌, eqb}
use Rattle.std.proofs.Math.Option.{Option, none, some}
use Rattle.counts.specs.Between.{between}
use Rattle.legs.specs.declared.events.Switches.{Switches}
use Rattle.legs.specs.Legs.{Switch, Home, Index, LimitAhead, LimitBehind, Trigger, Rise, Drop, On, Event, Leg}
use Rattle.legs.specs.Routes.{Row, row_of}

-- the place of the limit ahead in a word of switches: POT is bit 0, NOT bit 1
abbrev ahead_place : Bool → ℕ
ahead_place forward = cond forward 0 1

abbrev switch_place : Switch → Bool → ℕ
switch_place Home forward = 2
switch_place Index forward = 3
switch_place LimitAhead forward = ahead_place forward
switch_place LimitBehind forward = ahead_place (not forward)

abbrev trigger_bit : Trigger → ℕ
trigger_bit Rise = 0
trigger_bit Drop = 4
trigger_bit On = 64

-- the byte of a leg: its switch's place in a word of switches (POT, NOT, HOM, Z), 4 more if it awaits the drop, 64 more if it awaits the
-- level, 8 more if it goes forward, 16 more if it is fast; 32 is for the turn (`main_in`). No leg of the table has the byte 0. So the bytes of
-- a route spell its legs: computed over the table, `homing/proofs/Simulation.antt`.
abbrev pub byte_of : Leg → ℕ
byte_of l =
    switch_place l.event.switch l.forward + trigger_bit l.event.trigger + cond l.forward 8 0 + cond l.fast 16 0

-- 0 is a route with no leg
abbrev route_number : List Leg → ℕ
route_number [] = 0
route_number (l ∷ ls) = byte_of l + 256 * route_number ls

abbrev pub is_route : List Leg → Bool
is_route [] = false
is_route (l ∷ ls) = true

abbrev pub rest : List Leg → List Leg
rest [] = []
rest (l ∷ ls) = ls

-- route a; its first leg has 32 more where a limit turns it, since there is a b
abbrev pub main_in : Option Row → ℕ
main_in none = 0
main_in (some r) = cond (is_route r.b) 32 0 + route_number r.a

-- route b without its first leg, and route c
abbrev pub turn_in : Option Row → ℕ
turn_in none = 0
turn_in (some r) = route_number (rest r.b)

abbrev pub skip_in : Option Row → ℕ
skip_in none = 0
skip_in (some r) = route_number r.c

-- whether the switches of a start pick route c
abbrev pub picks_in : Option Row → Switches → Bool
picks_in none s = false
picks_in (some r) s = r.picks s

unfoldable pub main_route : ℕ → ℕ
main_route method = main_in (row_of method)

unfoldable pub turn_route : ℕ → ℕ
turn_route method = turn_in (row_of method)

unfoldable pub skip_route : ℕ → ℕ
skip_route method = skip_in (row_of method)

unfoldable pub skips : ℕ → Switches → Bool
skips method s = picks_in (row_of method) s

-- the route of a start, by the switches of its tick
unfoldable pub start_route : ℕ → Switches → ℕ
start_route method s = cond (skips method s) (skip_route method) (main_route method)

-- how the code finds route c of a method up to 30 (`start_by`, `legs/proofs/Rows.antt`): b without its first two legs, or a without its first
abbrev pub skip_by : ℕ → ℕ
skip_by method = cond (between 25 26 method || between 29 30 method) (turn_route method / 256) (main_route method / 256)

-- of a route's number, its first leg: direction and speed, what it awaits, and whether a limit turns it
abbrev pub forward_in : ℕ → Bool
forward_in route = eqb (route / 8 % 2) 1

abbrev pub fast_in : ℕ → Bool
fast_in route = eqb (route / 16 % 2) 1

abbrev pub edge_in : ℕ → Trigger
edge_in route = cond (eqb (route / 4 % 2) 1) Drop Rise

abbrev pub trigger_in : ℕ → Trigger
trigger_in route = cond (eqb (route / 64 % 2) 1) On (edge_in route)

abbrev pub turns_in : ℕ → Bool
turns_in route = eqb (route / 32 % 2) 1

-- the switch at a place, seen from a leg in this direction
abbrev pub switch_at : Bool → ℕ → Switch
switch_at forward place =
    cond (eqb place 3) Index (cond (eqb place 2) Home (cond (eqb place (ahead_place forward)) LimitAhead LimitBehind))

abbrev event_in : ℕ → Event
event_in route = record { switch = switch_at (forward_in route) (route % 4); trigger = trigger_in route }

-- the first leg of a route that has one
abbrev pub leg_from : ℕ → Leg
leg_from route = record { forward = forward_in route; fast = fast_in route; event = event_in route }
