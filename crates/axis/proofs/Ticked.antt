-- A tick under settings, put together: the drive, homing and the inputs are written one after the other, and the answer is made of what
-- they leave. l are the words before, m, n and k those after each of the three.
-- Assumes nothing.
use Prim.Native.Nat.{ℕ}
use mathlib.Core.Path.{◌≡◌, ap, ap₂, ◌∙◌}
use mathlib.Core.Bool.{Bool, ◌&&◌}
use mathlib.Core.List.{List}
use lib.IntN.{ℤ}
use Rattle.counts.specs.Bit.{bit_of}
use Rattle.settings.specs.declared.Settings.{Settings}
use Rattle.states.specs.declared.State.{State}
use Rattle.states.specs.States.{live_of}
use Rattle.states.specs.Alarm.{latched_of}
use Rattle.modes.specs.declared.Mode.{Mode}
use Rattle.modes.specs.Modes.{matched_of}
use Rattle.commands.specs.declared.Demand.{Demand}
use Rattle.commands.specs.Commands.{mode_of, whole_demand}
use Rattle.legs.specs.declared.events.Switches.{Switches}
use Rattle.speed.specs.Speed.{speed_of}
use Rattle.torque.specs.Torque.{torque_of}
use Rattle.ticks.specs.declared.Tick.{Tick}
use Rattle.ticks.specs.Motion.{Motion, driven, fed}
use Rattle.ticks.specs.Rules.{demand_in, alarm_in, homing_on}
use Rattle.ticks.specs.After.{new_mode, new_state, phase_by, home_by, motion_with, motion_after}
use Rattle.ticks.proofs.Assembly.{assembled}
use Rattle.answers.specs.declared.Answer.{Answer}
use Rattle.answers.specs.Answer.{answer_by, answer_in, answered_in}
use Rattle.rules.specs.Tick.{with_motion}
use Rattle.cells.specs.Cells.{settings_in, motion_in, axis_in}
use Rattle.cells.specs.Writes.{Moved}
use Rattle.cells.proofs.Moved.{motion-moved, settings-moved, moved-again}
use Rattle.axis.specs.Calls.{homing_by, Homes, Runs}
use Rattle.axis.proofs.Branches.{answered}

module _ (l m n k : List ℕ) (t : Tick) where
  abbrev s : Settings
  s = settings_in l

  abbrev a : Motion
  a = motion_in l

  pub ran : {wanted mode : Mode} {demand : Demand} {alarm number : ℕ} {state : State} {on : Bool} {torque speed position : ℤ} {switches : Switches}
      {r : Answer} → wanted ≡ mode_of t.command → demand ≡ demand_in s t → alarm ≡ alarm_in s t → state ≡ new_state s a t → mode ≡ new_mode a t
      → number ≡ latched_of a.alarm a.state state alarm → torque ≡ torque_of s mode t.set (live_of state && matched_of wanted mode) (whole_demand demand)
      → Moved l (driven a state mode number) m → on ≡ homing_on wanted mode state → Homes m t on n speed
      → switches ≡ t.switches → position ≡ t.position → Moved n (fed (motion_in n) t.control switches position) k
      → r ≡ answer_by (settings_in k) t (driven (motion_in k) state mode number) torque speed → Runs l t k r
  unfolding answered_in
  ran {wanted} {mode} {demand} {alarm} {number} {state} {on} {torque} {speed} {position} {switches} w d al st md num tq drive o homes sw pos inputs r =
      let phase = phase_by s a t on in
      let x : Motion = motion_with t state mode number phase (home_by a t on phase) in
      let m1 = motion-moved drive in
      let s1 = settings-moved drive in
      let m2 : motion_in n ≡ homing_by s (driven a state mode number) t on =
      motion-moved homes.moved ∙ ap₂ (λ (y : Settings) (b : Motion). homing_by y b t on) s1 m1 in
      let fedby : fed (motion_in n) t.control switches position ≡ x =
      ap (λ (b : Motion). fed b t.control switches position) m2
      ∙ ap₂ (fed (homing_by s (driven a state mode number) t on) t.control) sw pos in
      let after : x ≡ motion_after s a t = assembled s a t w al md st num o in
      let all = moved-again drive (moved-again homes.moved inputs) in
      let torque2 = tq ∙ ap (λ (y : Mode). torque_of s mode t.set (live_of state && matched_of y mode) (whole_demand demand)) w in
      let speed2 = homes.speed ∙ ap₂ (λ (y : Settings) (b : Motion). speed_of y (phase_by y b t on) (bit_of t.control 8)) s1 m1 in
      record {
        axis = all.axis ∙ ap (with_motion (axis_in l)) (fedby ∙ after);
        answer =
            r
            ∙ ap₂
            (λ (y : Settings) (b : Motion). answer_by y t (driven b state mode number) torque speed)
            (settings-moved all)
            (motion-moved inputs ∙ fedby)
            ∙ answered s t x d torque2 speed2
            ∙ ap (answer_in s t) after;
        kept = all.kept;
      }
