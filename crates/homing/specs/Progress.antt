-- 01, "Homing routes": homing tick by tick along a plan's legs, whatever the plan. It stands between the reading of a completed route
-- (`Complete`) and the numbers that the public calls promise (`Steps`): one theorem each way.
-- Assumes nothing.
use Rattle.std.specs.Prelude.{Bool, true, false, cond, List, [], ◌∷◌}
use Rattle.std.proofs.Math.Option.{Option, none, some}
use Rattle.legs.specs.Legs.{Leg}
use Rattle.legs.specs.Events.{View, event_counts, limit_counts}
use Rattle.legs.specs.Routes.{Plan}

-- running: the leg, those after it, and in a's first leg those of b from its second on
pub data Progress : Type 0 where
  idle failed homed : Progress
  running : Leg → List Leg → Option (List Leg) → Progress

-- "After the last event the axis is homed"
abbrev pub begin : List Leg → Option (List Leg) → Progress
begin [] t = homed
begin (l ∷ ls) t = running l ls t

-- "moves a's first leg (methods 23 to 30) to b's second; in any other leg, those of 33 and 34 included, it sets homing error and ends
-- homing": only a's first leg of these has a turn
abbrev pub on_limit : Option (List Leg) → Progress
on_limit none = failed
on_limit (some ls) = begin ls none

-- "A later tick with bit 4 clear, homing not matched or another state makes homing idle." "The leg's event is tried first; if it
-- counts, no limit is looked at in that tick."
unfoldable pub advance : Progress → View → Progress
advance idle v = idle
advance failed v = failed
advance homed v = homed
advance (running l ls t) v =
    cond v.kept (cond (event_counts l v) (begin ls none) (cond (limit_counts l v) (on_limit t) (running l ls t))) idle

abbrev pub advance_all : Progress → List View → Progress
advance_all p [] = p
advance_all p (v ∷ vs) = advance_all (advance p v) vs

-- the start tick "counts no event; 35 is homed in it"
abbrev pub begun : Plan → Progress
begun p = begin p.main p.turn

-- no plan makes homing idle
abbrev pub started : Option Plan → Progress
started none = idle
started (some p) = begun p

abbrev pub is_homed : Progress → Bool
is_homed idle = false
is_homed failed = false
is_homed homed = true
is_homed (running l ls t) = false
