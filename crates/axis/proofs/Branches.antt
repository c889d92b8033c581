-- A tick under settings, branch by branch: each comes to what the rule says of every tick.
-- Assumes nothing.
use Rattle.std.specs.Prelude.{None, Option, Some, ℤ}
use Prim.Native.Nat.{ℕ}
use mathlib.Core.Path.{◌≡◌, refl, sym, ap, ap₂, subst, ◌∙◌}
use mathlib.Core.Bool.{Bool, true, false, not, cond, ◌&&◌, ◌||◌, and-true, and-false, or-true, and-not_self, true≢false, false≢true}
use mathlib.Core.Option.{none, some}
use mathlib.Core.List.{List}
use lib.Dec.{eqb}
use lib.IntN.{ℤ, pos, ◌-ℤ◌}
use Rattle.counts.specs.Bit.{bit_of}
use Rattle.counts.specs.Wrap.{wrapped}
use Rattle.counts.specs.declared.Movement.{Movement}
use Rattle.counts.specs.Movement.{movement_of}
use Rattle.settings.specs.declared.Settings.{Settings}
use Rattle.settings.specs.declared.Refusal.TheVariants.{NoSettings}
use Rattle.control.specs.Control.{bit_rises}
use Rattle.modes.specs.Modes.{mode_number}
use Rattle.commands.specs.declared.Demand.{Demand}
use Rattle.commands.specs.Commands.{whole_demand}
use Rattle.homing.specs.Phase.{Phase, Idle, Running, Homed, Failed, phase_of, homed_in, running_in}
use Rattle.homing.specs.Steps.{start_of, step_of, stopped_of}
use Rattle.homing.specs.Moving.{moving_leg}
use Rattle.homing.proofs.Phases.{runs}
use Rattle.homing.proofs.Stopped.{stopped}
use Rattle.legs.specs.declared.events.Switches.{Switches}
use Rattle.legs.specs.Events.{View, switches_in}
use Rattle.legs.specs.Numbers.{leg_from}
use Rattle.speed.specs.Speed.{moving_speed, speed_of}
use Rattle.torque.specs.Torque.{torque_of}
use Rattle.position.specs.Position.{position_of, clamped_of}
use Rattle.status.specs.Statusword.{flags_in, limit_active, statusword_of}
use Rattle.ticks.specs.declared.Tick.{Tick}
use Rattle.ticks.specs.Motion.{Motion, phased, home_at}
use Rattle.ticks.specs.Rules.{matched_in, demand_in, view_with}
use Rattle.ticks.specs.After.{phase_after, phase_by, home_after, home_by, target_of}
use Rattle.answers.specs.declared.Answer.{Answer}
use Rattle.answers.specs.Answer.{refused_answer, is_following, torque_on, answer_by, answer_in}
use Rattle.rules.specs.Axis.{Active, Set}
use Rattle.rules.specs.Axis as axis
use Rattle.rules.specs.Tick.{tick_of}
use Rattle.patterns.specs.Patterns.{word_at, switch_bits}
use Rattle.patterns.proofs.Back.{bits_back}
use Rattle.cells.specs.Cells.{settings_in, active_in, motion_in, axis_in}
use Rattle.cells.specs.Writes.{Moved}
use Rattle.cells.proofs.Moved.{motion-moved, moved-again, unmoved}
use Rattle.axis.specs.Calls.{homing_by, Homes, arrived, TickCall, Runs}

-- the tick's switches, by their bits
pub bits-of-tick : (t : Tick) (bits : ℕ) → bits ≡ switch_bits t.switches → switches_in bits ≡ t.switches
bits-of-tick t bits e = rw e (bits_back t.switches)

-- what homing sees, value by value
pub seen_as : (t : Tick) (remembered : Switches) (position : ℤ) {kept halted : Bool} {movement : Movement} {before now : Switches} → kept ≡ bit_of t.control 4
    → halted ≡ bit_of t.control 8 → movement ≡ movement_of (wrapped (t.position -ℤ position)) → before ≡ remembered → now ≡ t.switches
    → ◌≡◌ {A = View} (record { kept = kept; halted = halted; movement = movement; before = before; now = now }) (view_with remembered position t true)
seen_as t remembered position k h m b n = rw (k, h, m, b, n, and-true (bit_of t.control 4))

-- the phase is written, and home where that is homed
module _ (l m : List ℕ) (p : Phase) (w : Moved l (phased (motion_in l) p) m) (position : ℤ) where
  pub homed-there : (n : List ℕ) {x : ℤ} → homed_in p ≡ true → x ≡ position → Moved m (home_at (motion_in m) x) n
      → Moved l (arrived (motion_in l) p position) n
  homed-there n {x} e q v =
      let home : home_at (motion_in m) x ≡ arrived (motion_in l) p position =
      ap₂ home_at (motion-moved w) q ∙ ap (λ (b : Bool). home_at (phased (motion_in l) p) (cond b position (motion_in l).home)) (sym e) in
      moved-again w (subst (λ (b : Motion). Moved m b n) home v)

  pub not-homed : homed_in p ≡ false → Moved l (arrived (motion_in l) p position) m
  not-homed e =
      subst (λ (b : Bool). Moved l (home_at (phased (motion_in l) p) (cond b position (motion_in l).home)) m) (sym e) w

-- what a start and what a later step come to is the tick's
module _ (l : List ℕ) (t : Tick) {method : ℕ} (e : method ≡ (settings_in l).method) where
  pub starts : {s : Switches} {p : Phase} → let a = motion_in l in
      bit_rises a.control t.control 4 ≡ true → s ≡ t.switches → p ≡ start_of method s → p ≡ phase_by (settings_in l) a t true
  starts rising switches q =
      let a = motion_in l in
      let v = view_with a.switches a.position t true in
      let start = ap (λ (b : Bool). phase_after a.phase (settings_in l).method (b && true) v) (sym rising) in
      q ∙ ap₂ start_of e switches ∙ start

  pub steps : {phase p : Phase} {v : View} → let a = motion_in l in
      bit_rises a.control t.control 4 ≡ false → phase ≡ a.phase
      → v ≡ view_with a.switches a.position t true → p ≡ step_of phase method v → p ≡ phase_by (settings_in l) a t true
  steps rising before w q =
      let a = motion_in l in
      let step = ap (λ (b : Bool). phase_after a.phase (settings_in l).method (b && true) (view_with a.switches a.position t true)) (sym rising) in
      q ∙ rw (before, e, w) step

-- A tick in which homing is on: what it comes to is the tick's phase, and home is the tick's position where the axis becomes homed. fresh: it
-- starts, or was not homed before.
pub arrives : (l : List ℕ) (t : Tick) (m : List ℕ) (v : ℤ) (p : Phase) {x : ℤ} {halted : Bool} → let a = motion_in l in
    let s = settings_in l in
    p ≡ phase_by s a t true → halted ≡ bit_of t.control 8
    → bit_rises a.control t.control 4 && true || not (homed_in a.phase) ≡ true
    → x ≡ t.position → Moved l (arrived a p x) m → v ≡ speed_of s p halted → Homes l t true m v
arrives l t m v p {x} same halted fresh position moved speed =
    let s = settings_in l in
    let a = motion_in l in
    let q = phase_by s a t true in
    let home : home_by a t true q ≡ cond (homed_in q) t.position a.home =
    ap (λ (b : Bool). cond (homed_in q && b) t.position a.home) fresh ∙ ap (λ (b : Bool). cond b t.position a.home) (and-true (homed_in q)) in
    let after : arrived a p x ≡ homing_by s a t true = ap₂ (arrived a) same position ∙ ap (home_at (phased a q)) (sym home) in
    record { moved = subst (λ (x : Motion). Moved l x m) after moved; speed = speed ∙ ap₂ (speed_of s) same halted }

-- a start is fresh, and so is a step from a running leg
pub fresh_start : {rising : Bool} (homed : Bool) → rising ≡ true → rising && true || not homed ≡ true
fresh_start homed e = rw e

pub fresh_step : (rising : Bool) (p : Phase) → running_in p ≡ true → rising && true || not (homed_in p) ≡ true
fresh_step rising Idle e = absurd (true≢false (sym e))
fresh_step rising (Running route) e = or-true (rising && true)
fresh_step rising Homed e = absurd (true≢false (sym e))
fresh_step rising Failed e = absurd (true≢false (sym e))

-- where no leg runs and none starts, homing stays as it is
stays : (p : Phase) (method : ℕ) (v : View) → running_in p ≡ false → step_of p method v ≡ p
stays Idle method v e = refl
stays (Running route) method v e = absurd (true≢false e)
stays Homed method v e = refl
stays Failed method v e = refl

pub unmoving : (p : Phase) (halted : Bool) → running_in p && not halted ≡ false → moving_leg p halted ≡ none
unmoving p true e = refl
unmoving Idle false e = refl
unmoving (Running route) false e = absurd (true≢false e)
unmoving Homed false e = refl
unmoving Failed false e = refl

-- a leg that runs in a tick that is not halted is the one that moves
pub moving : (n : ℕ) (halted : Bool) → running_in (phase_of n) && not halted ≡ true → moving_leg (phase_of n) halted ≡ some (leg_from n)
moving n true e = absurd (false≢true (sym (and-false (running_in (phase_of n))) ∙ e))
moving n false e = rw (runs n (sym (and-true (running_in (phase_of n))) ∙ e))

pub rests : (l : List ℕ) (t : Tick) → let a = motion_in l in
    bit_rises a.control t.control 4 ≡ false → running_in a.phase ≡ false → Homes l t true l (pos 0)
rests l t e r =
    let s = settings_in l in
    let a = motion_in l in
    let v = view_with a.switches a.position t true in
    let phase : phase_by s a t true ≡ a.phase =
    ap (λ (b : Bool). phase_after a.phase s.method (b && true) v) e ∙ stays a.phase s.method v r in
    let home : home_by a t true a.phase ≡ a.home =
    ap (λ (b : Bool). home_after a.home (b && true) (homed_in a.phase) (homed_in a.phase) t.position) e
    ∙ ap (λ (b : Bool). cond b t.position a.home) (and-not_self (homed_in a.phase)) in
    let after : a ≡ homing_by s a t true =
    sym (ap (λ (p : Phase). home_at (phased a p) (home_by a t true p)) phase ∙ ap (home_at a) home) in
    record {
      moved = subst (λ (x : Motion). Moved l x l) after (unmoved l);
      speed =
          sym
          (ap (λ (p : Phase). speed_of s p (bit_of t.control 8)) phase
          ∙ ap (moving_speed s) (unmoving a.phase (bit_of t.control 8) (ap (λ (b : Bool). b && not (bit_of t.control 8)) r)));
    }

-- A tick in which homing is off: it stops. What stops is homed exactly where it was, so home stays, and nothing moves.
stopped-homed : (p : Phase) → homed_in (stopped_of p) && not (homed_in p) ≡ false
stopped-homed Idle = refl
stopped-homed (Running route) = refl
stopped-homed Homed = refl
stopped-homed Failed = refl

stopped-moves : (p : Phase) (halted : Bool) → moving_leg (stopped_of p) halted ≡ none
stopped-moves p true = refl
stopped-moves Idle false = refl
stopped-moves (Running route) false = refl
stopped-moves Homed false = refl
stopped-moves Failed false = refl

pub stops : (l : List ℕ) (t : Tick) (m : List ℕ) → let a = motion_in l in
    Moved l (phased a (stopped_of a.phase)) m → Homes l t false m (pos 0)
stops l t m moved =
    let s = settings_in l in
    let a = motion_in l in
    let rising = bit_rises a.control t.control 4 in
    let v = view_with a.switches a.position t false in
    let q = stopped_of a.phase in
    let phase : phase_by s a t false ≡ q =
    ap (λ (b : Bool). phase_after a.phase s.method b v) (and-false rising) ∙ stopped a.phase s.method v (and-false (bit_of t.control 4)) in
    let home : home_by a t false q ≡ a.home =
    ap (λ (b : Bool). home_after a.home b (homed_in a.phase) (homed_in q) t.position) (and-false rising)
    ∙ ap (λ (b : Bool). cond b t.position a.home) (stopped-homed a.phase) in
    let after : phased a q ≡ homing_by s a t false =
    sym (ap (λ (p : Phase). home_at (phased a p) (home_by a t false p)) phase ∙ ap (home_at (phased a q)) home) in
    record {
      moved = subst (λ (x : Motion). Moved l x m) after moved;
      speed =
          sym
          (ap (λ (p : Phase). speed_of s p (bit_of t.control 8)) phase
          ∙ ap (moving_speed s) (stopped-moves a.phase (bit_of t.control 8)));
    }

-- where no target is followed the position is the actual one
pub unfollowed : (s : Settings) (home : ℤ) (f : Option ℤ) (actual : ℤ) → is_following f ≡ false
    → (actual ≡ position_of s home f actual) × (false ≡ clamped_of s f)
unfollowed s home (Some target) actual e = absurd (true≢false e)
unfollowed s home None actual e = (refl, refl)

-- the answer, put together of values that are made of the earlier ones as their rules say
pub handed : (s : Settings) (t : Tick) (a : Motion) (torque speed : ℤ) {phase : Phase} {homed follows clamped limited : Bool} {followed : Option ℤ}
    {home position mode : ℤ} {status : ℕ} → phase ≡ a.phase → homed ≡ homed_in phase
    → followed ≡ target_of t.command (matched_in t a.mode) a.state homed → home ≡ a.home
    → position ≡ position_of s home followed t.position → clamped ≡ clamped_of s followed → follows ≡ is_following followed
    → limited ≡ limit_active t.switches.positive t.switches.negative clamped → mode ≡ mode_number a.mode
    → status ≡ statusword_of a.state a.mode (flags_in phase follows limited)
    → ◌≡◌ {A = Answer} (record { number = 0; torque = torque; speed = speed; position = position; status = status; mode = mode; alarm = a.alarm })
    (answer_by s t a torque speed)
handed s t a torque speed phase homed followed home position clamped follows limited mode status =
    rw (position, status, mode, limited, clamped, follows, followed, homed, home, phase)

-- with the torque and the speed that the rules say, the answer is the tick's
pub answered : (s : Settings) (t : Tick) (a : Motion) {d : Demand} {torque speed : ℤ} → d ≡ demand_in s t
    → torque ≡ torque_of s a.mode t.set (torque_on t a) (whole_demand d) → speed ≡ speed_of s a.phase (bit_of t.control 8)
    → answer_by s t a torque speed ≡ answer_in s t a
unfolding answer_in
answered s t a demand torque speed = rw (torque, speed, demand)

nothing-set : {s : Settings} → axis.Nothing ≡ Set s → ⊥
nothing-set {s} e = true≢false (ap is_nothing e)
  where
    is_nothing : Active → Bool
    is_nothing axis.Nothing = true
    is_nothing (Set s) = false

-- a tick under the settings of the words, and a refused one, of the whole axis
pub ticked : (l : List ℕ) (t : Tick) (m : List ℕ) (a : Answer) → not (eqb (word_at l 8) 0) ≡ true → Runs l t m a → TickCall l t m a
unfolding tick_of axis_in active_in
ticked l t m a e c = go (eqb (word_at l 8) 0) refl e
  where
    go : (b : Bool) → eqb (word_at l 8) 0 ≡ b → not b ≡ true → TickCall l t m a
    go true q n = absurd (true≢false (sym n))
    go false q n =
        let u : active_in l ≡ Set (settings_in l) = rw q in
        record {
          axis = c.axis ∙ rw u;
          answer = c.answer ∙ rw u;
          kept = c.kept;
          refused = λ x. absurd (nothing-set (sym x ∙ u));
        }

pub refused-tick : (l : List ℕ) (t : Tick) (a : Answer) → not (eqb (word_at l 8) 0) ≡ false → a ≡ refused_answer NoSettings → TickCall l t l a
unfolding tick_of axis_in active_in
refused-tick l t a e f = go (eqb (word_at l 8) 0) refl e
  where
    go : (b : Bool) → eqb (word_at l 8) 0 ≡ b → not b ≡ false → TickCall l t l a
    go true q n = record { axis = rw q; answer = f ∙ rw q; kept = refl; refused = λ x. refl }
    go false q n = absurd (true≢false n)
