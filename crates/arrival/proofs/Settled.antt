-- The words of acceptable settings bring them into force on a fresh axis, and change nothing else there.
-- Assumes nothing.
use Prim.Native.Nat.{ℕ}
use mathlib.Core.Path.{◌≡◌, sym, ◌∙◌}
use mathlib.Core.Bool.{true}
use mathlib.Core.List.{List}
use native.Mathlib.Omega.{arith}
use Rattle.settings.specs.declared.Settings.{Settings}
use Rattle.settings.proofs.Numbered.{not-zero}
use Rattle.checks.specs.Check.{acceptable}
use Rattle.reader.specs.Pending.{Pending, Outcome, Refused, Stored, Complete}
use Rattle.reader.specs.Read.{empty_pending, read_of, outcome_number}
use Rattle.roundtrip.specs.ReadInto.{ReadInto, last, more}
use Rattle.roundtrip.proofs.There.{reads-back}
use Rattle.roundtrip.proofs.Back.{layouts-hold}
use Rattle.ticks.specs.Motion.{fresh_motion}
use Rattle.rules.specs.Axis.{Active, Nothing, Set, Axis}
use Rattle.rules.specs.Word.{with_pending, taken, word_of}
use Rattle.rules.proofs.Refused.{left-empty}
use Rattle.simulator.specs.Run.{after_words, settled}

-- an axis that has had no tick
abbrev pub untouched : Active → Pending → Axis
untouched a p = record { active = a; pending = p; motion = fresh_motion }

unstored : {X : Type 0} (s : Settings) → Complete s ≡ Stored → X
unstored s e = let z : ◌≡◌ {A = ℕ} 0 1 = cc in absurd (omega arith)

leads : {p : Pending} {ws : List ℕ} {s : Settings} → ReadInto p ws s → (a : Active) → after_words (untouched a p) ws ≡ untouched (Set s) empty_pending
unfolding word_of
leads {p} {s = s} (last {w = w} e) a = rw (e, left-empty p w (λ q. unstored s (sym e ∙ q)))
leads {p} {s = s} (more {w = w} {ws} e i) a = go (read_of p w).outcome e (leads i)
  where
    q : Pending
    q = (read_of p w).pending

    go : (o : Outcome) → outcome_number o ≡ 0 → ((b : Active) → after_words (untouched b q) ws ≡ untouched (Set s) empty_pending)
        → after_words (taken (with_pending (untouched a p) q) o).axis ws ≡ untouched (Set s) empty_pending
    go (Refused r) n ih = absurd (not-zero r n)
    go Stored n ih = ih a
    go (Complete t) n ih = ih (Set t)

pub settled-fresh : (s : Settings) → acceptable s ≡ true → settled s ≡ untouched (Set s) empty_pending
settled-fresh s ok = leads (reads-back 3 s (layouts-hold s ok).layout_3 empty_pending) Nothing
