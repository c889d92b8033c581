-- Demand 3 holds of every list of events: the invariant gives the axis at each place, and the rules' own laws do the rest.
-- Assumes nothing.
use mathlib.Core.Path.{◌≡◌, refl, sym, ap, ◌∙◌, subst}
use mathlib.Core.Bool.{Bool, true, false, false≢true}
use mathlib.Core.List.{List, [], ◌∷◌, ◌++◌}
use mathlib.Core.Logic.{◌↔◌}
use Rattle.counts.specs.Bit.{bit_of}
use Rattle.settings.specs.declared.Settings.{Settings}
use Rattle.states.specs.States.{live_of}
use Rattle.modes.specs.declared.Mode.{Mode}
use Rattle.modes.specs.declared.Mode.TheVariants.{None, Hybrid, Homing, Position, Torque}
use Rattle.modes.specs.Modes.{is_mode}
use Rattle.commands.specs.Commands.{whole_demand}
use Rattle.homing.specs.Phase.{homed_in}
use Rattle.homing.proofs.Simulation.{homing-iff}
use Rattle.torque.specs.Bounded.{Bounded}
use Rattle.torque.proofs.Within.{bounded, zero-when-off}
use Rattle.status.specs.Statusword.{statusword_of}
use Rattle.status.proofs.Bits.{bit-8-homed, bit-12-homed}
use Rattle.rules.specs.Axis.{Active, Nothing, Set, Axis, fresh_axis}
use Rattle.ticks.specs.declared.Tick.{Tick}
use Rattle.demands.specs.Events.{Event, tick}
use Rattle.ticks.specs.Rules.{demand_in}
use Rattle.ticks.specs.After.{new_mode, new_state, new_phase, motion_after}
use Rattle.answers.specs.Answer.{flags_of, torque_on, answer_in, answered_in}
use Rattle.rules.specs.Tick.{gone, tick_under, tick_of}
use Rattle.demands.specs.Replies.{left_by, axis_from, replies_from, axis_of, replies}
use Rattle.demands.specs.Known.{Known, Since, never, start, after_tick, next, known, CompletesSince, RouteCompleted}
use Rattle.demands.specs.Demand.{Judged, TickPromise, Demand3}
use Rattle.demands.proofs.Matches.{phase_for, Matches}
use Rattle.demands.proofs.Kept.{keep-under, matches}

-- ---- homed

-- the phase that a list leads to is homed exactly when a route is completed
phase-homed : (x : Active) (since : Since) → (homed_in (phase_for x since) ≡ true) ↔ CompletesSince x since
phase-homed Nothing since = (λ h. false≢true h, absurd)
phase-homed (Set s) never = (λ h. false≢true h, absurd)
phase-homed (Set s) (start switches views) = homing-iff s.method switches views

-- a bit that shows a flag, and what the flag means
through : {A : Type 0} {b c : Bool} → b ≡ c → (c ≡ true) ↔ A → (b ≡ true) ↔ A
through e i = (λ h. i.0 (sym e ∙ h), λ a. e ∙ i.1 a)

is-homing : (m : Mode) → is_mode m Homing ≡ true → m ≡ Homing
is-homing None e = absurd (false≢true e)
is-homing Hybrid e = absurd (false≢true e)
is-homing Homing e = refl
is-homing Position e = absurd (false≢true e)
is-homing Torque e = absurd (false≢true e)

-- ---- a tick under settings

module _ (a : Axis) (k : Known) (m : Matches a k) (t : Tick) where
  module _ (s : Settings) (e : k.settings ≡ Set s) where
    -- the axis after the tick, and what is known with it
    after : Matches (gone a (answered_in s a.motion t)).axis (next k (tick t))
    after = subst (λ (x : Active). Matches (gone a (answered_in s a.motion t)).axis (after_tick x k t)) (sym e) (keep-under a k m s e t)

    off : live_of (next k (tick t)).state ≡ false → torque_on t (motion_after s a.motion t) ≡ false
    unfolding answered_in
    off h = let l : live_of (new_state s a.motion t) ≡ false = ap live_of after.state ∙ h in rw l

    homed-known : (homed_in (new_phase s a.motion t) ≡ true) ↔ RouteCompleted (next k (tick t))
    unfolding answered_in
    homed-known = through (ap homed_in after.phase) (phase-homed (next k (tick t)).settings (next k (tick t)).since)

    in-homing : is_mode (next k (tick t)).shown Homing ≡ true → new_mode a.motion t ≡ Homing
    unfolding answered_in
    in-homing h = after.mode ∙ is-homing (next k (tick t)).shown h

    judged : Judged s k t (answered_in s a.motion t).answer
    unfolding answered_in answer_in
    judged =
        let flags = flags_of s t (motion_after s a.motion t) in
        let torque = (answer_in s t (motion_after s a.motion t)).torque in
        record {
          number = refl;
          bounded =
              subst (λ (mode : Mode). Bounded s mode t.set torque) after.mode
              (bounded s (new_mode a.motion t) t.set (torque_on t (motion_after s a.motion t)) (whole_demand (demand_in s t)));
          zero_unless_live = λ h. rw (off h) (zero-when-off s (new_mode a.motion t) t.set (whole_demand (demand_in s t)));
          homed = through (bit-8-homed (new_state s a.motion t) (new_mode a.motion t) flags) homed-known;
          attained = λ h.
              through (ap (λ (mode : Mode). bit_of (statusword_of (new_state s a.motion t) mode flags) 12) (in-homing h) ∙ bit-12-homed (new_state s a.motion t) flags)
              homed-known;
        }

  promise : TickPromise k.settings k t (tick_of a t).answer
  unfolding tick_of
  promise = subst (λ (x : Active). TickPromise k.settings k t (tick_under x a t).answer) (sym m.active) (go k.settings refl)
    where
      go : (x : Active) → k.settings ≡ x → TickPromise x k t (tick_under x a t).answer
      go Nothing e = refl
      go (Set s) e = judged s e

-- ---- every place of the list

replies-append : (a : Axis) (es fs : List Event) → replies_from a (es ++ fs) ≡ replies_from a es ++ replies_from (axis_from a es) fs
replies-append a [] fs = refl
replies-append a (e ∷ es) fs = rw (replies-append (left_by a e) es fs)

pub demand3 : (es : List Event) → Demand3 es
demand3 es =
    record {
      in_force = λ before after e. (matches before).active;
      each = λ before t after e.
          record {
            answer = (tick_of (axis_of before) t).answer;
            later = replies_from (left_by (axis_of before) (tick t)) after;
            reply = ap replies e ∙ replies-append fresh_axis before (tick t ∷ after);
            promise = promise (axis_of before) (known before) (matches before) t;
          };
    }
