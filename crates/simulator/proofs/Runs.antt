-- What a run is judged, and what it then is: refused, or ridden. And how far its start is.
-- Assumes nothing.
use Rattle.std.specs.Prelude.{Err, Ok}
use Prim.Native.Nat.{ℕ, ◌-◌}
use native.Mathlib.Omega.{arith}
use mathlib.Core.Path.{◌≡◌, refl, sym, ap}
use mathlib.Core.Bool.{Bool, true, false, cond}
use lib.IntN.{ℤ}
use Rattle.settings.specs.declared.Settings.{Settings}
use Rattle.settings.specs.declared.Refusal.{Refusal}
use Rattle.settings.specs.declared.Refusal.TheVariants.{RailUnfit}
use Rattle.settings.specs.Refusal.{Verdict}
use Rattle.settings.proofs.Numbered.{not-zero}
use Rattle.checks.proofs.Numbers.{refused-accepted}
use Rattle.checks.specs.Check.{verdict_of}
use Rattle.carriage.specs.declared.Rail.{Rail}
use Rattle.carriage.specs.Rail.{rail_fits}
use Rattle.carriage.proofs.Fitting.{Fitting}
use Rattle.simulator.specs.declared.Outcome.{Outcome}
use Rattle.simulator.specs.Stretch.{StaysNear}
use Rattle.simulator.specs.Run.{started, one_more, ride, refused_run, judged, ran_under, run_of}

module _ (r : Rail) (s : Settings) (start : ℤ) (n : ℕ) where
  pub refused-by : (q : Refusal) → judged r s start n ≡ Err q → refused_run q ≡ run_of r s start n
  unfolding run_of
  refused-by q v = rw v

  pub ridden-to : (o : Outcome) → judged r s start n ≡ Ok tt → ride r (n - 1) (started r s start) start ≡ o → one_more o ≡ run_of r s start n
  unfolding run_of
  ridden-to o v e = rw v (ap one_more (sym e))

  -- a run that may be made is neither unfit nor refused for its sheet
  pub record Admitted : Type 0 where
    pub fits : rail_fits r start n ≡ true
    pub accepted : verdict_of s ≡ Ok tt

  pub admitted : judged r s start n ≡ Ok tt → Admitted
  admitted v = go (rail_fits r start n) refl v
    where
      go : (b : Bool) → rail_fits r start n ≡ b → cond b (verdict_of s) (Err RailUnfit) ≡ Ok tt → Admitted
      go true f v = record { fits = f; accepted = v }
      go false f v = refused-accepted RailUnfit v

  pub admits : rail_fits r start n ≡ true → verdict_of s ≡ Ok tt → judged r s start n ≡ Ok tt
  admits f v = rw (f, v)

  -- so is one with the number 0
  pub runs : (run_of r s start n).number ≡ 0 → judged r s start n ≡ Ok tt
  unfolding run_of
  runs = go (judged r s start n)
    where
      go : (v : Verdict) → (ran_under v r s start n).number ≡ 0 → v ≡ Ok tt
      go (Err q) z = absurd (not-zero q z)
      go (Ok tt) z = refl

-- a run that fits begins near enough for its ticks
pub begins-near : (r : Rail) (start : ℤ) (n : ℕ) → Fitting r start n → StaysNear r (n - 1) start
begins-near r start n f =
    record {
      fast = f.fast.most;
      slow = f.slow.most;
      near = rw f.begins (omega (arith, f.on_rail, f.length.most, f.ticks.most));
    }
