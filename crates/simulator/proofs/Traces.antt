-- The legs of a run, one after the other.
-- Assumes nothing.
use Prim.Native.Nat.{ℕ, ◌-◌}
use mathlib.Core.Path.{◌≡◌, sym, ap, ◌∙◌}
use mathlib.Core.Bool.{Bool, cond}
use borrow.Author.Tests.{eq-eqb, ne_eqb}
use lib.IntN.{ℤ}
use Rattle.settings.specs.declared.Settings.{Settings}
use Rattle.rules.specs.Axis.{Axis}
use Rattle.carriage.specs.declared.Rail.{Rail}
use Rattle.simulator.specs.declared.Outcome.{Outcome}
use Rattle.simulator.specs.Run.{started, run_of}
use Rattle.simulator.specs.Trace.{legs_from, no_legs, traced, trace_of}

-- the legs of a trip that begins after the start tick
pub legs-run : (r : Rail) (s : Settings) (start : ℤ) (n : ℕ) (o : Outcome) {q : Rail} {k : ℕ} {b : Axis} {x : ℤ} → o ≡ run_of r s start n → o.number ≡ 0
    → q ≡ r → k ≡ n - 1 → b ≡ started r s start → x ≡ start → legs_from q k b x o ≡ trace_of r s start n
unfolding trace_of
legs-run r s start n o e z f g h i =
    rw (f, g, h, i) (ap (λ (b : Bool). cond b (legs_from r (n - 1) (started r s start) start o) (no_legs start o)) (sym (eq-eqb o.number 0 z)) ∙ ap (traced r s start n) e)

pub legs-none : (r : Rail) (s : Settings) (start : ℤ) (n : ℕ) (o : Outcome) → o ≡ run_of r s start n → (o.number ≡ 0 → ⊥) → no_legs start o ≡ trace_of r s start n
unfolding trace_of
legs-none r s start n o e z = ap (λ (b : Bool). cond b (legs_from r (n - 1) (started r s start) start o) (no_legs start o)) (sym (ne_eqb o.number 0 z)) ∙ ap (traced r s start n) e
