-- 02, (ii): "the motor pushes on" no longer.
-- Assumes nothing.
use Rattle.std.specs.Prelude.{◌≡◌, false, ℕ}
use Rattle.std.proofs.Math.Bool.{So}
use Rattle.legs.specs.Events.{View, limit_ahead}
use Rattle.legs.specs.Numbers.{forward_in}
use Rattle.homing.specs.Phase.{Running}
use Rattle.homing.specs.Steps.{running_of}

-- in a later tick that is not halted, with the limit on in the running leg's direction, that leg does not run on
abbrev pub EndsAtLimit : Type 0
EndsAtLimit =
    (method route : ℕ) (v : View) → v.halted ≡ false → So (limit_ahead (forward_in route) v.now)
    → running_of method route v ≡ Running route
    → ⊥
