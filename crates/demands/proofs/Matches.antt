-- The invariant between an axis and what is known of the list that it was fed.
-- Assumes nothing.
use mathlib.Core.Path.{◌≡◌, refl}
use mathlib.Core.Bool.{Bool, true, false, cond}
use mathlib.Core.List.{List, [], ◌∷◌, ◌++◌}
use Prim.Native.Nat.{ℕ}
use Rattle.settings.specs.declared.Settings.{Settings}
use Rattle.legs.specs.declared.events.Switches.{Switches}
use Rattle.legs.specs.Events.{View}
use Rattle.homing.specs.Phase.{Phase, Idle}
use Rattle.homing.specs.Steps.{start_of, step_of, step_all}
use Rattle.roundtrip.specs.Stream.{pending_after}
use Rattle.rules.specs.Axis.{Active, Nothing, Set, Axis}
use Rattle.demands.specs.Known.{Known, Since, never, start, seen}

-- the phase that a start and the ticks after it lead to
abbrev pub phase_for : Active → Since → Phase
phase_for Nothing since = Idle
phase_for (Set s) never = Idle
phase_for (Set s) (start switches views) = step_all (start_of s.method switches) s.method views

pub record Matches (a : Axis) (k : Known) : Type 0 where
  pub active : a.active ≡ k.settings
  pub pending : a.pending ≡ pending_after k.words
  pub state : a.motion.state ≡ k.state
  pub mode : a.motion.mode ≡ k.shown
  pub control : a.motion.control ≡ k.control
  pub switches : a.motion.switches ≡ k.switches
  pub position : a.motion.position ≡ k.position
  pub phase : a.motion.phase ≡ phase_for k.settings k.since

step-append : (p : Phase) (m : ℕ) (vs : List View) (v : View) → step_of (step_all p m vs) m v ≡ step_all p m (vs ++ v ∷ [])
step-append p m [] v = refl
step-append p m (u ∷ vs) v = step-append (step_of p m u) m vs v

-- a start, or one tick more
pub phase-step : (s : Settings) (starts : Bool) (switches : Switches) (v : View) (since : Since)
    → cond starts (start_of s.method switches) (step_of (phase_for (Set s) since) s.method v) ≡ phase_for (Set s) (cond starts (start switches []) (seen since v))
phase-step s true switches v since = refl
phase-step s false switches v never = refl
phase-step s false switches v (start w vs) = step-append (start_of s.method w) s.method vs v
