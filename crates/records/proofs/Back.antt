-- An answer reads back from its words.
-- Assumes nothing.
use mathlib.Core.Path.{◌≡◌}
use mathlib.Core.Bool.{true, false}
use lib.IntN.{ℤ, pos}
use Rattle.counts.specs.Fits.{fits}
use Rattle.counts.specs.Wrap.{modulo, wrapped}
use Rattle.counts.proofs.Fits.{fits-mag}
use Rattle.patterns.proofs.Back.{signed_back}
use Rattle.records.specs.Words.{answer_words}
use Rattle.records.specs.Back.{answer_of_words, AnswersReadBack}

back : (z : ℤ) → fits 32 z ≡ true → wrapped (pos (modulo 32 z)) ≡ z
back z e = signed_back z (fits-mag false z e)

pub answers-read-back : AnswersReadBack
unfolding answer_words answer_of_words
answers-read-back a f = λ i.
    record {
      number = a.number;
      torque = back a.torque f.torque i;
      speed = back a.speed f.speed i;
      position = back a.position f.position i;
      status = a.status;
      mode = back a.mode f.mode i;
      alarm = a.alarm;
    }
