-- What a C program receives. l are the words of the axis before a call, m those after it.
-- Assumes nothing.
use Rattle.std.specs.Prelude.{ℕ, ◌≡◌, List, Float}
use Rattle.settings.specs.Refusal.{verdict_number, Verdict}
use Rattle.answers.specs.declared.Answer.{Answer}
use Rattle.axis.specs.Calls as axis
use Rattle.records.specs.Words.{tick_in, answer_words}

-- `axis_fresh`: the words are zeros, which mean the fresh axis
abbrev pub FreshCall : List ℕ → Type 0
FreshCall m = axis.FreshCall m

-- `axis_word`: what the axis's own call promises, and the number of its verdict
pub record WordCall (l : List ℕ) (w : ℕ) (m : List ℕ) (number : ℕ) : Type 0 where
  pub verdict : Verdict
  pub call : axis.WordCall l w m verdict
  pub numbered : number ≡ verdict_number verdict

-- `axis_tick`: what the axis's own call promises of the tick in the event's words and floats, and the answer as words, the first of which is
-- returned too
pub record TickCall (l e : List ℕ) (f : List Float) (m out : List ℕ) (number : ℕ) : Type 0 where
  pub answer : Answer
  pub call : axis.TickCall l (tick_in e f) m answer
  pub words : out ≡ answer_words answer
  pub numbered : number ≡ answer.number
