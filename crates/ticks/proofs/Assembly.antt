-- What a tick leaves, put together: if each value is made of the earlier ones as its rule says, the motion is the tick's.
-- Assumes nothing.
use Prim.Native.Nat.{ℕ}
use mathlib.Core.Path.{◌≡◌, ap, ap₂, ◌∙◌}
use mathlib.Core.Bool.{Bool}
use lib.IntN.{ℤ}
use Rattle.settings.specs.declared.Settings.{Settings}
use Rattle.states.specs.declared.State.{State}
use Rattle.states.specs.Alarm.{latched_of}
use Rattle.modes.specs.declared.Mode.{Mode}
use Rattle.commands.specs.Commands.{mode_of}
use Rattle.homing.specs.Phase.{Phase}
use Rattle.ticks.specs.declared.Tick.{Tick}
use Rattle.ticks.specs.Motion.{Motion}
use Rattle.ticks.specs.After.{new_mode, new_state, phase_by, new_phase, home_by, new_home, motion_with, motion_after}
use Rattle.ticks.specs.Rules.{alarm_in, homing_on, homing_in}

-- motions with equal fields
same : (t : Tick) {state state2 : State} {mode mode2 : Mode} {alarm alarm2 : ℕ} {phase phase2 : Phase} {home home2 : ℤ}
    → state ≡ state2 → mode ≡ mode2 → alarm ≡ alarm2 → phase ≡ phase2 → home ≡ home2
    → motion_with t state mode alarm phase home ≡ motion_with t state2 mode2 alarm2 phase2 home2
same t a b c d e = cc

module _ (s : Settings) (a : Motion) (t : Tick) where
  pub assembled : {wanted mode : Mode} {alarm number : ℕ} {state : State} {on : Bool}
      → wanted ≡ mode_of t.command → alarm ≡ alarm_in s t → mode ≡ new_mode a t → state ≡ new_state s a t
      → number ≡ latched_of a.alarm a.state state alarm → on ≡ homing_on wanted mode state
      → motion_with t state mode number (phase_by s a t on) (home_by a t on (phase_by s a t on)) ≡ motion_after s a t
  unfolding new_phase
  assembled {wanted} {mode} {alarm} {number} {state} {on} w al m st num hom =
      let o : on ≡ homing_in t (new_mode a t) (new_state s a t) =
      hom ∙ ap (λ (x : Mode). homing_on x mode state) w ∙ ap₂ (homing_on (mode_of t.command)) m st in
      let p : phase_by s a t on ≡ new_phase s a t = ap (phase_by s a t) o in
      let n : number ≡ latched_of a.alarm a.state (new_state s a t) (alarm_in s t) = num ∙ ap₂ (latched_of a.alarm a.state) st al in
      let h : home_by a t on (phase_by s a t on) ≡ new_home s a t = ap₂ (home_by a t) o p in
      same t st m n p h
