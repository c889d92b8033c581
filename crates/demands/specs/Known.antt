-- What a list of settings words and ticks means, read from the list alone: which settings are in force, in which state and mode the drive
-- is, what is remembered, and the latest homing start with what homing sees of the ticks after it. No axis, no pending settings and no
-- homing phase stand in it. A refused tick is left out of every reading.
-- Assumes nothing.
use Rattle.std.specs.Prelude.{ℕ, cond, List, [], ◌∷◌, ◌++◌, ℤ, pos}
use Rattle.states.specs.declared.State.{State}
use Rattle.states.specs.declared.State.TheVariants.{NotReady}
use Rattle.states.specs.States.{live_of}
use Rattle.modes.specs.declared.Mode.{Mode}
use Rattle.modes.specs.declared.Mode.TheVariants.{None}
use Rattle.legs.specs.declared.events.Switches.{Switches}
use Rattle.legs.specs.Events.{View, all_off}
use Rattle.legs.specs.Routes.{plan_of}
use Rattle.homing.specs.Complete.{CompletesPlan}
use Rattle.rules.specs.Axis.{Active, Nothing, Set}
use Rattle.ticks.specs.declared.Tick.{Tick}
use Rattle.ticks.specs.Rules.{mode_after, state_after, starts_in, view_in}
use Rattle.demands.specs.Takeover.{completed_by}
use Rattle.demands.specs.Events.{Event, word, tick}

-- the latest homing start since the last takeover: the switches in its tick, and what homing sees of each tick after it
pub data Since : Type 0 where
  never : Since
  start : Switches → List View → Since

pub record Known : Type 0 where
  -- the words so far, ticks aside
  pub words : List ℕ
  -- the settings in force: those of the latest takeover
  pub settings : Active
  -- the drive's state and the shown mode, by their own rules
  pub state : State
  pub shown : Mode
  -- control word, switches and position of the last tick not refused; zeros before any
  pub control : ℕ
  pub switches : Switches
  pub position : ℤ
  pub since : Since

-- before any event
abbrev pub at_first : Known
at_first =
    record {
      words = [];
      settings = Nothing;
      state = NotReady;
      shown = None;
      control = 0;
      switches = all_off;
      position = pos 0;
      since = never;
    }

-- the settings that one word more takes over, or nothing: none while the drive is live
abbrev pub takes_over : Known → List ℕ → Active
takes_over k ws = cond (live_of k.state) Nothing (completed_by ws)

-- a takeover replaces the settings, and clears homed: no earlier start counts
abbrev pub after_word : Active → Known → List ℕ → Known
after_word Nothing k ws =
    record {
      words = ws;
      settings = k.settings;
      state = k.state;
      shown = k.shown;
      control = k.control;
      switches = k.switches;
      position = k.position;
      since = k.since;
    }
after_word (Set s) k ws =
    record {
      words = ws;
      settings = Set s;
      state = k.state;
      shown = k.shown;
      control = k.control;
      switches = k.switches;
      position = k.position;
      since = never;
    }

-- one tick more after a start
abbrev pub seen : Since → View → Since
seen never v = never
seen (start s views) v = start s (views ++ v ∷ [])

abbrev pub since_after : Known → Tick → Mode → State → Since
since_after k t mode state =
    cond (starts_in k.control t mode state) (start t.switches []) (seen k.since (view_in k.switches k.position t mode state))

-- with no settings in force a tick is refused, and changes nothing
abbrev pub after_tick : Active → Known → Tick → Known
after_tick Nothing k t = k
after_tick (Set s) k t =
    record {
      words = k.words;
      settings = k.settings;
      state = state_after s k.state k.control t;
      shown = mode_after k.shown k.state t;
      control = t.control;
      switches = t.switches;
      position = t.position;
      since = since_after k t (mode_after k.shown k.state t) (state_after s k.state k.control t);
    }

abbrev pub next : Known → Event → Known
next k (word w) = after_word (takes_over k (k.words ++ w ∷ [])) k (k.words ++ w ∷ [])
next k (tick t) = after_tick k.settings k t

abbrev pub known_from : Known → List Event → Known
known_from k [] = k
known_from k (e ∷ es) = known_from (next k e) es

abbrev pub known : List Event → Known
known es = known_from at_first es

-- demand 3's homed: the ticks from the latest homing start on spell a route of the sheet's method
abbrev pub CompletesSince : Active → Since → Type 0
CompletesSince Nothing since = ⊥
CompletesSince (Set s) never = ⊥
CompletesSince (Set s) (start switches views) = CompletesPlan (plan_of s.method switches) views

abbrev pub RouteCompleted : Known → Type 0
RouteCompleted k = CompletesSince k.settings k.since
