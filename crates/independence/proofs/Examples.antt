-- The test of the examples finds no difference between answers that are equal.
-- Assumes nothing.
use mathlib.Core.Path.{◌≡◌, refl, subst}
use mathlib.Core.Bool.{true, false≢true}
use mathlib.Core.List.{List, [], ◌∷◌}
use borrow.Author.Tests.{eq-eqb}
use lib.IntN.{ℤ, pos, negsuc}
use Rattle.counts.specs.Tests.{same}
use Rattle.answers.specs.declared.Answer.{Answer}
use Rattle.independence.specs.Examples.{same_answer, same_answers, differ, DifferMeans}

same_refl : (z : ℤ) → same z z ≡ true
same_refl (pos n) = eq-eqb n n refl
same_refl (negsuc n) = eq-eqb n n refl

answer-refl : (a : Answer) → same_answer a a ≡ true
answer-refl a =
    rw (
      eq-eqb a.number a.number refl,
      same_refl a.torque,
      same_refl a.speed,
      same_refl a.position,
      eq-eqb a.status a.status refl,
      same_refl a.mode,
      eq-eqb a.alarm a.alarm refl,
    )

answers-refl : (xs : List Answer) → same_answers xs xs ≡ true
answers-refl [] = refl
answers-refl (x ∷ xs) = rw (answer-refl x) (answers-refl xs)

pub differ-means : DifferMeans
differ-means xs ys d e = false≢true (rw (answers-refl ys) at (subst (λ (zs : List Answer). differ zs ys ≡ true) e d))
