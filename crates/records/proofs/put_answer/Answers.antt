-- `records::put_answer` meets its contract: seven words in a place for seven are all that is there.
-- Assumes nothing.
use Prim.Native.Nat.{ℕ}
use mathlib.Core.Path.{◌≡◌, ap, ◌∙◌}
use mathlib.Core.List.{List, ◌++◌}
use native.Mathlib.Omega.{arith}
use lib.ListN.{length, drop_of_length-le}
use lib.Seq.{sets, sets-eq}
use Rattle.answers.specs.declared.Answer.{Answer}
use Rattle.records.specs.Words.{answer_words, seven_of}
use Rattle.records.proofs.put_answer.Goals as goal

filled : (l : List ℕ) (a : Answer) → length l ≡ 7 → sets l 0 (seven_of (answer_words a)) ≡ answer_words a
unfolding answer_words
filled l a h = sets-eq (answer_words a) l 0 (omega (arith, h)) ∙ ap (λ (r : List ℕ). answer_words a ++ r) (drop_of_length-le l {i = 7} (omega (arith, h)))

pub returns : goal.returns
returns c =
    let b = c.args in
    c.put_words.ensures
    ∙ ap (λ (x : List ℕ). sets b.out.now 0 (seven_of x)) c.answer_words.ensures
    ∙ filled b.out.now b.a c.answer_space.ensures
