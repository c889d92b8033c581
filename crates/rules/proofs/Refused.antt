-- A word that is not stored leaves nothing pending; a tick neither reads nor writes what is.
-- Assumes nothing.
use Prim.Native.Nat.{ℕ}
use mathlib.Core.Path.{◌≡◌, refl, ap, ◌∙◌}
use mathlib.Core.Bool.{Bool, true, false}
use Rattle.settings.specs.Refusal.{verdict_number}
use Rattle.reader.specs.Pending.{Pending, Reading, Outcome, Refused, Stored, Complete}
use Rattle.reader.specs.Read.{empty_pending, read_of}
use Rattle.reader.proofs.Accepted.{ReadBy, refuses, accepted, begins, keeps, closes, read_by}
use Rattle.states.specs.States.{live_of}
use Rattle.answers.specs.Answer.{answer_in, answered_in}
use Rattle.rules.specs.Axis.{Active, Nothing, Set, Axis}
use Rattle.rules.specs.Word.{with_pending, taken, word_of}
use Rattle.rules.specs.Tick.{tick_of}
use Rattle.rules.specs.Refused.{RefusedWords, RefusedTick, RefusedTicks, Unseen, PendingUnseen}

-- a word that is not stored leaves nothing pending
pub left-empty : (p : Pending) (w : ℕ) → ((read_of p w).outcome ≡ Stored → ⊥) → (read_of p w).pending ≡ empty_pending
left-empty p w n = go (read_by p w)
  where
    go : ReadBy p w → (read_of p w).pending ≡ empty_pending
    go (refuses r e) = ap (λ (a : Reading). a.pending) e
    go (accepted (closes d i l e)) = ap (λ (a : Reading). a.pending) e
    go (accepted (begins i k e)) = absurd (n (ap (λ (a : Reading). a.outcome) e))
    go (accepted (keeps d l z i e)) = absurd (n (ap (λ (a : Reading). a.outcome) e))

pub refused-word : RefusedWords
unfolding word_of
refused-word a w n = kept (read_of a.pending w).outcome n ∙ ap (λ (p : Pending). with_pending a p) (left-empty a.pending w not-stored)
  where
    b : Axis
    b = with_pending a (read_of a.pending w).pending

    not-stored : (read_of a.pending w).outcome ≡ Stored → ⊥
    not-stored s = n (ap (λ (o : Outcome). verdict_number (taken b o).verdict) s)

    kept : (o : Outcome) → (verdict_number (taken b o).verdict ≡ 0 → ⊥) → (taken b o).axis ≡ b
    kept (Refused x) q = refl
    kept Stored q = refl
    kept (Complete s) q = go (live_of a.motion.state) refl
      where
        go : (l : Bool) → live_of a.motion.state ≡ l → (taken b (Complete s)).axis ≡ b
        go true h = rw h
        go false h = absurd (q (rw h))

pub refused-tick : RefusedTicks
unfolding tick_of answered_in answer_in
refused-tick a t n = go a.active refl
  where
    go : (x : Active) → a.active ≡ x → RefusedTick a t
    go Nothing e = record { left = rw e; answer = rw e }
    go (Set s) e = absurd (n (rw e))

pub pending-unseen : PendingUnseen
unfolding tick_of
pending-unseen a p t = go a.active refl
  where
    go : (x : Active) → a.active ≡ x → Unseen a p t
    go Nothing e = record { left = rw e; answer = rw e }
    go (Set s) e = record { left = rw e; answer = rw e }
