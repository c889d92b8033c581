-- 02, (vii): "For methods 23 to 30, when s is at most f, f at most w and at most u, and u + w at most L − f, a run given at least
-- 4 × (ceiling of (L + f) ÷ s, plus 1) + 1 ticks is homed within that many."
-- Assumes nothing.
use Rattle.std.specs.Prelude.{ℕ, ◌+◌, ◌-◌, ◌*◌, ◌/◌, ◌≤◌, ◌≡◌, true, ℤ}
use Rattle.settings.specs.declared.Settings.{Settings}
use Rattle.checks.specs.Check.{acceptable}
use Rattle.carriage.specs.declared.Rail.{Rail}
use Rattle.carriage.specs.Rail.{rail_fits}
use Rattle.simulator.specs.declared.Stop.TheVariants as stop
use Rattle.simulator.specs.declared.Outcome.{Outcome}
use Rattle.simulator.specs.Run.{run_of}

-- room for a fast tick before the cam, on it and after it: no tick leaps over any of them
pub record Roomy (r : Rail) : Type 0 where
  pub slower : r.slow ≤ r.fast
  pub on_cam : r.fast ≤ r.width
  pub before_cam : r.fast ≤ r.cam
  pub after_cam : r.cam + r.width + r.fast ≤ r.length

abbrev pub ceiling : ℕ → ℕ → ℕ
ceiling n d = (n + d - 1) / d

-- four legs at most, each with the ticks of the whole way and one more; and the start tick
abbrev pub bound : Rail → ℕ
bound r = 4 * (ceiling (r.length + r.fast) r.slow + 1) + 1

pub record HomedWithin (n : ℕ) (o : Outcome) : Type 0 where
  pub number : o.number ≡ 0
  pub stop : o.stop ≡ stop.Homed
  pub ticks : o.ticks ≤ n

-- of a run that is refused neither with 12 nor for its sheet. The ticks that the result carries are bounded by the formula (01, "Forms for specific places")
abbrev pub HomesInTime : Type 0
HomesInTime =
    (r : Rail) (s : Settings) (start : ℤ) (n : ℕ) → rail_fits r start n ≡ true → acceptable s ≡ true → 23 ≤ s.method → s.method ≤ 30
    → Roomy r → bound r ≤ n
    → HomedWithin (bound r) (run_of r s start n)
