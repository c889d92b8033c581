-- An answer as its seven words, read back. The words are those of `answer_words`, an answer's number, torque, speed, position, statusword, mode
-- and alarm number.
-- Assumes nothing.
use Rattle.std.specs.Prelude.{ℕ, ◌≡◌, true, List}
use Rattle.counts.specs.Fits.{fits}
use Rattle.patterns.specs.Patterns.{word_at}
use Rattle.answers.specs.declared.Answer.{Answer}
use Rattle.records.specs.Words.{signed_at, answer_words}

-- an answer read from words in that order; torque, speed, position and mode are read as signed
unfoldable pub answer_of_words : List ℕ → Answer
answer_of_words w =
    record {
      number = word_at w 0;
      torque = signed_at w 1;
      speed = signed_at w 2;
      position = signed_at w 3;
      status = word_at w 4;
      mode = signed_at w 5;
      alarm = word_at w 6;
    }

-- an answer whose four signed numbers fit 32 bits; number, statusword and alarm number are taken as they are, and the types of the code bound them
pub record AnswerFits (a : Answer) : Type 0 where
  pub torque : fits 32 a.torque ≡ true
  pub speed : fits 32 a.speed ≡ true
  pub position : fits 32 a.position ≡ true
  pub mode : fits 32 a.mode ≡ true

-- such an answer reads back from its words: they lose nothing of it. Every answer to a tick of an event's words does (`AllAnswersReadBack`,
-- `exports/specs/Back.antt`)
abbrev pub AnswersReadBack : Type 0
AnswersReadBack = (a : Answer) → AnswerFits a → answer_of_words (answer_words a) ≡ a
