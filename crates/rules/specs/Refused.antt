-- Demand 1, of one word and one tick: what a refused one leaves, and that no tick sees or writes what is pending.
-- Assumes nothing.
use Rattle.std.specs.Prelude.{ℕ, ◌≡◌}
use Rattle.settings.specs.declared.Refusal.TheVariants.{NoSettings}
use Rattle.settings.specs.Refusal.{verdict_number}
use Rattle.reader.specs.Pending.{Pending}
use Rattle.reader.specs.Read.{empty_pending}
use Rattle.ticks.specs.declared.Tick.{Tick}
use Rattle.answers.specs.Answer.{refused_answer}
use Rattle.rules.specs.Axis.{Axis}
use Rattle.rules.specs.Word.{with_pending, word_of}
use Rattle.rules.specs.Tick.{tick_of}

-- "A refused word empties the unfinished sheet and touches nothing else"
abbrev pub RefusedWords : Type 0
RefusedWords = (a : Axis) (w : ℕ) → (verdict_number (word_of a w).verdict ≡ 0 → ⊥) → (word_of a w).axis ≡ with_pending a empty_pending

-- "a refused tick changes nothing and commands zero torque": number 8, and every other field of the answer is 0
pub record RefusedTick (a : Axis) (t : Tick) : Type 0 where
  pub left : (tick_of a t).axis ≡ a
  pub answer : (tick_of a t).answer ≡ refused_answer NoSettings

abbrev pub RefusedTicks : Type 0
RefusedTicks = (a : Axis) (t : Tick) → ((tick_of a t).answer.number ≡ 0 → ⊥) → RefusedTick a t

-- with other pending settings a tick leaves all else the same, and is answered the same
pub record Unseen (a : Axis) (p : Pending) (t : Tick) : Type 0 where
  pub left : (tick_of (with_pending a p) t).axis ≡ with_pending (tick_of a t).axis p
  pub answer : (tick_of (with_pending a p) t).answer ≡ (tick_of a t).answer

abbrev pub PendingUnseen : Type 0
PendingUnseen = (a : Axis) (p : Pending) (t : Tick) → Unseen a p t
