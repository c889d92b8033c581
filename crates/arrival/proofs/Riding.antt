-- The axis on a rail: from the start tick on it stays in Operation enabled and mode 6 and keeps homing, and all that moves it on is a view of two cells.
-- Assumes nothing.
use Prim.Native.Nat.{ℕ}
use mathlib.Core.Path.{◌≡◌, refl}
use mathlib.Core.Bool.{true, false}
use lib.IntN.{ℤ, ◌-ℤ◌}
use Rattle.counts.specs.Wrap.{wrapped}
use Rattle.counts.specs.Movement.{movement_of}
use Rattle.settings.specs.declared.Settings.{Settings}
use Rattle.legs.specs.Events.{View}
use Rattle.homing.specs.Phase.{Phase}
use Rattle.homing.specs.Steps.{start_of, step_of}
use Rattle.reader.specs.Read.{empty_pending}
use Rattle.states.specs.declared.State.TheVariants.{OperationEnabled}
use Rattle.control.specs.Control.{control_command_of}
use Rattle.drive.specs.Transitions.{next_state}
use Rattle.modes.specs.declared.Mode.TheVariants.{Homing}
use Rattle.ticks.specs.After.{new_phase}
use Rattle.answers.specs.Answer.{answered_in}
use Rattle.rules.specs.Axis.{Axis, Set}
use Rattle.rules.specs.Tick.{tick_of}
use Rattle.carriage.specs.declared.Rail.{Rail}
use Rattle.carriage.specs.Rail.{switches_at}
use Rattle.simulator.specs.Run.{after, started_from}
use Rattle.arrival.proofs.Settled.{untouched}

-- an axis that homes at a cell
abbrev pub riding : Rail → Settings → ℕ → ℤ → ℤ → Phase → Axis
riding r s alarm home x phase =
    record {
      active = Set s;
      pending = empty_pending;
      motion =
          record {
            state = OperationEnabled;
            mode = Homing;
            alarm = alarm;
            phase = phase;
            home = home;
            control = 0x001F;
            switches = switches_at r x;
            position = wrapped x;
          };
    }

-- what homing sees of the way from cell x to cell y
abbrev pub view_on : Rail → ℤ → ℤ → View
view_on r x y =
    record {
      kept = true;
      halted = false;
      movement = movement_of (wrapped (wrapped y -ℤ wrapped x));
      before = switches_at r x;
      now = switches_at r y;
    }

module _ (r : Rail) (s : Settings) where
  -- a later tick at cell y
  pub rides-on : (alarm : ℕ) (home x y : ℤ) (p : Phase)
      → (let a = after r 0x001F y (riding r s alarm home x p) in a ≡ riding r s a.motion.alarm a.motion.home y (step_of p s.method (view_on r x y)))
  unfolding tick_of answered_in next_state control_command_of new_phase
  rides-on alarm home x y p = refl

  -- the start tick
  pub rides : (x : ℤ)
      → (let a = started_from r x (untouched (Set s) empty_pending) in a ≡ riding r s a.motion.alarm a.motion.home x (start_of s.method (switches_at r x)))
  unfolding tick_of answered_in next_state control_command_of new_phase
  rides x = refl
