-- How the code cuts a run: a stretch is the ticks in which one leg runs, up to its event, a turn, an error, or the number of ticks.
-- Assumes nothing.
use Rattle.std.specs.Prelude.{ℕ, zero, suc, ◌+◌, ◌*◌, ◌^◌, ◌≤◌, ◌<◌, ◌≡◌, Bool, true, false, cond, eqb, ℤ}
use Rattle.std.specs.Int.Signed.{mag}
use Rattle.homing.specs.Phase.{Phase, Idle, Running, Homed, Failed}
use Rattle.rules.specs.Axis.{Axis}
use Rattle.carriage.specs.declared.Rail.{Rail}
use Rattle.simulator.specs.Run.{phase_on, next_cell, next_axis}

-- homing goes on in the same leg, or, where no acceptable settings lead, goes on being idle
abbrev pub goes_on : Phase → Phase → Bool
goes_on Idle Idle = true
goes_on Idle (Running n) = false
goes_on Idle Homed = false
goes_on Idle Failed = false
goes_on (Running m) Idle = false
goes_on (Running m) (Running n) = eqb m n
goes_on (Running m) Homed = false
goes_on (Running m) Failed = false
goes_on Homed q = false
goes_on Failed q = false

-- ticks, and where they lead
pub record Stretch : Type 0 where
  pub ticks : ℕ
  pub cell : ℤ
  pub axis : Axis

abbrev pub here : Axis → ℤ → Stretch
here a x = record { ticks = 0; cell = x; axis = a }

abbrev pub tick_more : Stretch → Stretch
tick_more t = record { ticks = t.ticks + 1; cell = t.cell; axis = t.axis }

-- at most n ticks, each begun in phase p; none where that is homed or failed
abbrev pub stretch_in : Phase → Rail → ℕ → Axis → ℤ → Stretch
stretch_in p r zero a x = here a x
stretch_in p r (suc n) a x = cond (goes_on p (phase_on a)) (tick_more (stretch_in p r n (next_axis r a x) (next_cell r a x))) (here a x)

abbrev pub stretch_of : Rail → ℕ → Axis → ℤ → Stretch
stretch_of r n a x = stretch_in (phase_on a) r n a x

-- so many ticks of it, and where they lead
abbrev pub Stretches : Rail → ℕ → Axis → ℤ → ℕ → ℤ → Axis → Type 0
Stretches r n a x ticks cell b = stretch_of r n a x ≡ record { ticks = ticks; cell = cell; axis = b }

-- n ticks from x on keep the cell well within 64 bits
pub record StaysNear (r : Rail) (n : ℕ) (x : ℤ) : Type 0 where
  pub fast : r.fast ≤ 2 ^ 20
  pub slow : r.slow ≤ 2 ^ 20
  pub near : mag x + n * 2 ^ 21 < 2 ^ 62
