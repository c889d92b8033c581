-- Demand 3, one statement about the whole list. For every list of settings words and ticks from a fresh axis, in any order, refused ones
-- included: the settings in force are, in every field, the last ones taken over; and each tick of the list, judged by the list up to it, is
-- answered as `TickPromise` says. What is known of a list is read from the list alone, in `Known.antt`.
-- Settings are 01's sheet; to complete a route is to spell it; an Event is a word or a tick, not a leg's event.
-- `replies` and `axis_of` run `word_of` and `tick_of`, which the calls `axis::word` and `axis::tick` promise to equal (`axis/specs/Calls.antt`); of a
-- C program's calls, see `exports/specs/Run.antt`.
-- The theorem is `demand3 : (es : List Event) → Demand3 es`, in `proofs/Promised.antt`.
-- Assumes nothing.
use Rattle.std.specs.Prelude.{◌≡◌, true, false, List, ◌∷◌, ◌++◌, ◌↔◌, pos}
use Rattle.counts.specs.Bit.{bit_of}
use Rattle.settings.specs.declared.Settings.{Settings}
use Rattle.states.specs.States.{live_of}
use Rattle.modes.specs.declared.Mode.TheVariants.{Homing}
use Rattle.modes.specs.Modes.{is_mode}
use Rattle.torque.specs.Bounded.{Bounded}
use Rattle.rules.specs.Axis.{Active, Nothing, Set}
use Rattle.ticks.specs.declared.Tick.{Tick}
use Rattle.answers.specs.declared.Answer.{Answer}
use Rattle.demands.specs.Events.{Event, tick}
use Rattle.demands.specs.Replies.{Reply, answered, axis_of, replies}
use Rattle.demands.specs.Known.{Known, next, known, RouteCompleted}

-- a tick under settings s, answered a; k is what is known of the list before it, `next k (tick t)` of the list up to it
pub record Judged (s : Settings) (k : Known) (t : Tick) (a : Answer) : Type 0 where
  -- it is not refused
  pub number : a.number ≡ 0
  -- the torque lies, each way, within the cap of the mode that the tick shows and the limit that it chooses; so within that limit, capped by the
  -- maximum (`StillWithinLimits`, `torque/specs/Bounded.antt`), and in mode 6 within the homing torque (`CappedInHoming`)
  pub bounded : Bounded s (next k (tick t)).shown t.set a.torque
  -- and is zero unless the new state is Operation enabled or Quick stop active
  pub zero_unless_live : live_of (next k (tick t)).state ≡ false → a.torque ≡ pos 0
  -- status bit 8 is set exactly when the ticks from the latest homing start since the last takeover, up to this one, complete a route of
  -- the method in force
  pub homed : (bit_of a.status 8 ≡ true) ↔ RouteCompleted (next k (tick t))
  -- and so is bit 12 where mode 6 is shown
  pub attained : is_mode (next k (tick t)).shown Homing ≡ true → ((bit_of a.status 12 ≡ true) ↔ RouteCompleted (next k (tick t)))

-- where no settings are in force a tick is refused with 8, and nowhere else
abbrev pub TickPromise : Active → Known → Tick → Answer → Type 0
TickPromise Nothing k t a = a.number ≡ 8
TickPromise (Set s) k t a = Judged s k t a

-- a tick after the events `before` of the list. Every word and tick gets one reply: first those to `before`, then this tick's answer, then
-- the later ones; so `reply` leaves no choice of the answer.
pub record At (es before : List Event) (t : Tick) : Type 0 where
  pub answer : Answer
  pub later : List Reply
  pub reply : replies es ≡ replies before ++ answered answer ∷ later
  pub promise : TickPromise (known before).settings (known before) t answer

pub record Demand3 (es : List Event) : Type 0 where
  -- at every place of the list the settings in force are, in every field, those of the last takeover, or none
  pub in_force : (before after : List Event) → es ≡ before ++ after → (axis_of before).active ≡ (known before).settings
  -- every tick of the list
  pub each : (before : List Event) (t : Tick) (after : List Event) → es ≡ before ++ tick t ∷ after → At es before t
