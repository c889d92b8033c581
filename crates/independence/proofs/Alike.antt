-- Words that take nothing over are not seen, so what is answered is what the ticks alone are; and to ticks alone the answers agree. Where no tick has a
-- position command they are equal.
-- Assumes nothing.
use mathlib.Core.Path.{◌≡◌, refl, sym, ap, ◌∙◌, subst}
use mathlib.Core.List.{List, [], ◌∷◌, map}
use Rattle.ticks.specs.declared.Tick.{Tick}
use Rattle.answers.specs.declared.Answer.{Answer}
use Rattle.rules.specs.Tick.{tick_of}
use Rattle.demands.specs.Events.{tick}
use Rattle.independence.specs.Alike.{NoPosition, answers_from, ticks_in, TicksAlike, AnsweredAlike, CaseOfNoWords}
use Rattle.independence.specs.Positions.{AllAgree, WithPositions}
use Rattle.independence.proofs.Tick.{ticks-agree}
use Rattle.independence.proofs.Takeovers.{words-unseen}

pub with-positions : WithPositions
with-positions a b es fs h same taken-a taken-b =
    let ts = ticks_in es in
    let ours = words-unseen a es taken-a in
    let theirs : answers_from b fs ≡ answers_from b (map tick ts) = words-unseen b fs taken-b ∙ ap (λ (us : List Tick). answers_from b (map tick us)) (sym same) in
    rw (ours, theirs) (ticks-agree a b ts h)

equal-elsewhere : (ts : List Tick) (xs ys : List Answer) → NoPosition ts → AllAgree ts xs ys → xs ≡ ys
equal-elsewhere [] [] [] n h = refl
equal-elsewhere [] [] (y ∷ ys) n h = absurd h
equal-elsewhere [] (x ∷ xs) ys n h = absurd h
equal-elsewhere (t ∷ ts) [] ys n h = absurd h
equal-elsewhere (t ∷ ts) (x ∷ xs) [] n h = absurd h
equal-elsewhere (t ∷ ts) (x ∷ xs) (y ∷ ys) n h = rw (h.0.elsewhere n.0, equal-elsewhere ts xs ys n.1 h.1)

pub answered-alike : AnsweredAlike
answered-alike a b es fs h same n taken-a taken-b =
    equal-elsewhere (ticks_in es) (answers_from a es) (answers_from b fs) n (with-positions a b es fs h same taken-a taken-b)

-- ---- the case of no words

pub case-of-no-words : CaseOfNoWords
case-of-no-words a [] = (refl, tt)
case-of-no-words a (t ∷ ts) =
    let rest = case-of-no-words (tick_of a t).axis ts in
    (ap (λ (us : List Tick). t ∷ us) rest.0, rest.1)

pub ticks-alike : TicksAlike
ticks-alike a b ts h n =
    let none-a = case-of-no-words a ts in
    let none-b = case-of-no-words b ts in
    answered-alike a b (map tick ts) (map tick ts) h refl (subst NoPosition (sym none-a.0) n) none-a.1 none-b.1
