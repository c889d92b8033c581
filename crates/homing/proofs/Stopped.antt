-- A later tick that does not keep homing leaves what `stop` does: no event and no limit is looked at in it.
-- Assumes nothing.
use mathlib.Core.Path.{◌≡◌, refl}
use mathlib.Core.Bool.{false}
use Prim.Native.Nat.{ℕ}
use Rattle.legs.specs.Events.{View}
use Rattle.homing.specs.Phase.{Phase, Idle, Running, Homed, Failed}
use Rattle.homing.specs.Steps.{running_of, step_of, stopped_of}

pub stopped : (p : Phase) (method : ℕ) (v : View) → v.kept ≡ false → step_of p method v ≡ stopped_of p
unfolding running_of
stopped Idle method v k = refl
stopped (Running route) method v k = rw k
stopped Homed method v k = refl
stopped Failed method v k = refl
