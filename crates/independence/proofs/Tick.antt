-- One tick, and ticks alone. Units and home come into an answer through a followed target alone, as position and bit 11, and no command but position
-- has one. So the argument is computed: with other units and another home a tick is answered the same but for these, and leaves the same but for home.
-- Assumes nothing.
use Rattle.std.specs.Prelude.{None}
use Prim.Native.Nat.{ℕ, ◌-◌, ◌^◌}
use mathlib.Core.Path.{◌≡◌, refl, sym, ◌∙◌, subst}
use mathlib.Core.Bool.{Bool, true, false, false≢true}
use mathlib.Core.List.{List, [], ◌∷◌, map}
use mathlib.Core.Option.{Option, none, some}
use native.Mathlib.Omega.{arith}
use lib.IntN.{ℤ}
use Rattle.counts.specs.Bit.{bit_of}
use Rattle.settings.specs.declared.Settings.{Settings}
use Rattle.reader.specs.Pending.{Pending}
use Rattle.legs.specs.Legs.{Leg}
use Rattle.homing.specs.Moving.{moving_leg}
use Rattle.homing.specs.Phase.{Phase, Idle, Running, Homed, Failed, homed_in, failed_in}
use Rattle.states.specs.declared.State.{State}
use Rattle.modes.specs.declared.Mode.{Mode}
use Rattle.modes.specs.declared.Mode.TheVariants as mode
use Rattle.modes.specs.Modes.{is_mode}
use Rattle.commands.specs.declared.Command.{Command}
use Rattle.commands.specs.declared.Command.TheVariants.{Hybrid, Homing, Position, Torque, Rest}
use Rattle.commands.specs.Commands.{mode_of, whole_demand}
use Rattle.torque.specs.declared.LimitSet.{LimitSet}
use Rattle.torque.specs.declared.LimitSet.TheVariants.{Set1, Set2}
use Rattle.torque.specs.Limits.{cap_of}
use Rattle.torque.specs.Torque.{torque_of}
use Rattle.status.specs.Statusword.{flags_in, weight_of, statusword_of}
use Rattle.status.proofs.Bits.{bit-11-limited}
use Rattle.speed.specs.Speed.{moving_speed}
use Rattle.ticks.specs.declared.Tick.{Tick}
use Rattle.ticks.specs.Motion.{Motion, home_at}
use Rattle.ticks.specs.Rules.{matched_in, demand_in}
use Rattle.ticks.specs.After.{new_phase, new_home, target_of, motion_after}
use Rattle.answers.specs.Answer.{is_following, followed_in, flags_of, torque_on, answer_in, answered_in}
use Rattle.rules.specs.Axis.{Active, Set, Axis}
use Rattle.rules.specs.Axis as active
use Rattle.rules.specs.Tick.{tick_of}
use Rattle.demands.specs.Events.{tick}
use Rattle.independence.specs.Alike.{EqualButUnits, EqualInForce, running_from, Alike, answers_from}
use Rattle.independence.specs.Positions.{but_bit11, Agree, AllAgree}

-- ---- axes that are alike differ in units, home and what is pending

-- s with the units of r
abbrev units_replaced : Settings → Settings → Settings
units_replaced s r =
    record {
      method = s.method;
      fast = s.fast;
      slow = s.slow;
      offset = r.offset;
      numerator = r.numerator;
      denominator = r.denominator;
      lower = r.lower;
      upper = r.upper;
      maximum = s.maximum;
      positive1 = s.positive1;
      negative1 = s.negative1;
      positive2 = s.positive2;
      negative2 = s.negative2;
      option = s.option;
      rated = s.rated;
      homing = s.homing;
    }

equal-but-units : (s r : Settings) → EqualButUnits s r → r ≡ units_replaced s r
equal-but-units s r h =
    rw (h.method, h.fast, h.slow, h.maximum, h.positive1, h.negative1, h.positive2, h.negative2, h.option, h.rated, h.homing)

-- homed, homing error and running leg make the phase
abbrev phase_with : Bool → Bool → Option ℕ → Phase
phase_with homed error (some route) = Running route
phase_with true error none = Homed
phase_with false true none = Failed
phase_with false false none = Idle

phase-with : (p : Phase) → phase_with (homed_in p) (failed_in p) (running_from p) ≡ p
phase-with Idle = refl
phase-with (Running route) = refl
phase-with Homed = refl
phase-with Failed = refl

equal-but-home : (a b : Axis) → Alike a b → b.motion ≡ home_at a.motion b.motion.home
equal-but-home a b h =
    let o = h.others in
    let d = o.drive in
    let p : a.motion.phase ≡ b.motion.phase = sym (phase-with a.motion.phase) ∙ rw (o.homed, o.error, h.leg) (phase-with b.motion.phase) in
    rw (d.state, d.mode, d.alarm, p, d.control, d.switches, d.position)

-- ---- one tick

no_target : (c : Command) → is_mode (mode_of c) mode.Position ≡ false → (matched : Bool) (state : State) (homed : Bool) → target_of c matched state homed ≡ None
no_target (Hybrid h) e matched state homed = refl
no_target (Homing request) e matched state homed = refl
no_target (Position target request) e matched state homed = absurd (false≢true (sym e))
no_target (Torque request) e matched state homed = refl
no_target Rest e matched state homed = refl

-- the statusword less bit 11 is that with nothing limited, so one whatever is limited
module _ (state : State) (shown : Mode) (p : Phase) (following : Bool) where
  unlimited : (b : Bool) → statusword_of state shown (flags_in p following b) - weight_of b (2 ^ 11) ≡ statusword_of state shown (flags_in p following false)
  unfolding statusword_of
  unlimited true = omega arith
  unlimited false = omega arith

  less-bit-11 : (b : Bool) → but_bit11 (statusword_of state shown (flags_in p following b)) ≡ statusword_of state shown (flags_in p following false)
  less-bit-11 b = rw (bit-11-limited state shown (flags_in p following b)) (unlimited b)

  status-same : (b c : Bool) → but_bit11 (statusword_of state shown (flags_in p following b)) ≡ but_bit11 (statusword_of state shown (flags_in p following c))
  status-same b c = less-bit-11 b ∙ sym (less-bit-11 c)

abbrev under : Settings → Pending → Motion → Axis
under s pending motion = record { active = Set s; pending = pending; motion = motion }

-- what is shown of two axes and the ticks that both get
abbrev pub Agreeing : List Tick → Axis → Axis → Type 0
Agreeing ts a b = AllAgree ts (answers_from a (map tick ts)) (answers_from b (map tick ts))

module _ (s r : Settings) where
  torque-same : (shown : Mode) (set : LimitSet) (on : Bool) (demand : ℤ) → torque_of (units_replaced s r) shown set on demand ≡ torque_of s shown set on demand
  unfolding torque_of cap_of
  torque-same shown Set1 on demand = refl
  torque-same shown Set2 on demand = refl

  speed-same : (leg : Option Leg) → moving_speed (units_replaced s r) leg ≡ moving_speed s leg
  speed-same none = refl
  speed-same (some leg) = refl

  -- what a tick that leaves motion m is answered
  answers_agree : (t : Tick) (m : Motion) (home : ℤ) → Agree t (answer_in s t m) (answer_in (units_replaced s r) t (home_at m home))
  unfolding answer_in
  answers_agree t m home =
      let torque = torque-same m.mode t.set (torque_on t m) (whole_demand (demand_in s t)) in
      let speed = speed-same (moving_leg m.phase (bit_of t.control 8)) in
      let status = status-same m.state m.mode m.phase (is_following (followed_in t m)) (flags_of s t m).limited (flags_of (units_replaced s r) t m).limited in
      record {
        elsewhere = λ e. rw (no_target t.command e (matched_in t m.mode) m.state (homed_in m.phase), torque, speed);
        everywhere = record { number = refl; torque = sym torque; speed = sym speed; status = status; mode = refl; alarm = refl };
      }

  -- ---- any ticks: what each leaves is the same but for home, which is computed

  from-motion : (ts : List Tick) (p q : Pending) (m : Motion) (home : ℤ) → Agreeing ts (under s p m) (under (units_replaced s r) q (home_at m home))
  unfolding tick_of answered_in new_phase
  from-motion [] p q m home = tt
  from-motion (t ∷ ts) p q m home =
      let n = motion_after s m t in
      let moved = new_home (units_replaced s r) (home_at m home) t in
      (answers_agree t n moved, from-motion ts p q n moved)

pub ticks-agree : (a b : Axis) (ts : List Tick) → Alike a b → Agreeing ts a b
ticks-agree a b ts h = go a.active refl b.active refl h.others.settings
  where
    go : (x : Active) → a.active ≡ x → (y : Active) → b.active ≡ y → EqualInForce x y → Agreeing ts a b
    go active.Nothing e y f q = absurd q
    go (Set s) e active.Nothing f q = absurd q
    go (Set s) e (Set r) f q =
        let one : under s a.pending a.motion ≡ a = rw e in
        let other : under (units_replaced s r) b.pending (home_at a.motion b.motion.home) ≡ b =
        rw (f, sym (equal-but-units s r q), sym (equal-but-home a b h)) in
        let agree = from-motion s r ts a.pending b.pending a.motion b.motion.home in
        subst (λ (c : Axis). Agreeing ts c b) one (subst (λ (c : Axis). Agreeing ts (under s a.pending a.motion) c) other agree)
