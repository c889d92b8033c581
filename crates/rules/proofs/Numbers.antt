-- A word's number is that of the first case that holds: the reader's, by its own law; past them an end word meets a live drive or nothing.
-- Assumes nothing.
use Prim.Native.Nat.{ℕ}
use mathlib.Core.Path.{◌≡◌, refl, sym, ap, ◌∙◌}
use mathlib.Core.Bool.{Bool, true, false, cond, ◌&&◌}
use mathlib.Core.List.{List, [], ◌∷◌, ◌++◌}
use native.Mathlib.Omega.{arith}
use borrow.Author.Tests.{ne_eqb, eq-eqb}
use Rattle.settings.specs.declared.Settings.{Settings}
use Rattle.settings.specs.Refusal.{number_of, verdict_number, Test, first_of}
use Rattle.settings.proofs.Numbered.{not-zero}
use Rattle.words.specs.Word.{kind_of}
use Rattle.words.specs.Encode.{checksum_of}
use Rattle.reader.specs.Pending.{Pending, Reading, Outcome, Refused, Stored, Complete}
use Rattle.reader.specs.Read.{layout_in, read_of, outcome_number}
use Rattle.reader.specs.Cases.{is_end}
use Rattle.reader.specs.Cases as reader
use Rattle.layouts.proofs.Sizes.{size_below}
use Rattle.reader.proofs.Numbers.{numbers}
use Rattle.reader.proofs.Accepted.{AcceptedBy, begins, keeps, closes, accepted-by}
use Rattle.states.specs.States.{live_of}
use Rattle.rules.specs.Axis.{Active, Nothing, Set, Axis}
use Rattle.rules.specs.Word.{with_pending, taken, word_of}
use Rattle.rules.specs.Tick.{tick_under, tick_of}
use Rattle.answers.specs.Answer.{answer_in, answered_in}
use Rattle.rules.specs.Numbers.{live_test, tests_of, WordNumbers, tick_number, TickNumbers}

-- ---- tests in order

hit-first : (xs ys : List Test) (n : ℕ) → first_of xs ≡ n → (n ≡ 0 → ⊥) → first_of (xs ++ ys) ≡ n
hit-first [] ys n e h = absurd (h (sym e))
hit-first (t ∷ xs) ys n e h = go t.holds (λ e. hit-first xs ys n e h) e
  where
    go : (b : Bool) → (first_of xs ≡ n → first_of (xs ++ ys) ≡ n) → cond b t.number (first_of xs) ≡ n → cond b t.number (first_of (xs ++ ys)) ≡ n
    go true k e = e
    go false k e = k e

abbrev Positive : List Test → Type 0
Positive [] = Unit {0}
Positive (t ∷ ts) = (t.number ≡ 0 → ⊥) × Positive ts

miss-first : (xs ys : List Test) → Positive xs → first_of xs ≡ 0 → first_of (xs ++ ys) ≡ first_of ys
miss-first [] ys p e = refl
miss-first (t ∷ xs) ys p e = go t.holds (λ e. miss-first xs ys p.1 e) e
  where
    go : (b : Bool) → (first_of xs ≡ 0 → first_of (xs ++ ys) ≡ first_of ys) → cond b t.number (first_of xs) ≡ 0
        → cond b t.number (first_of (xs ++ ys)) ≡ first_of ys
    go true k e = absurd (p.0 e)
    go false k e = k e

-- ---- an end word completes settings or is refused, and no other word completes any

unstored : {s : Settings} → Complete s ≡ Stored → ⊥
unstored q = let z : ◌≡◌ {A = ℕ} 0 1 = cc in omega arith

module _ (p : Pending) (w : ℕ) where
  stored-no-end : (read_of p w).outcome ≡ Stored → is_end w ≡ false
  stored-no-end o = go (accepted-by p w (ap outcome_number o))
    where
      go : AcceptedBy p w → is_end w ≡ false
      go (begins i k e) = ne_eqb (kind_of w) 15 (λ q. omega arith)
      go (keeps d l k i e) = let b = size_below (layout_in p) in ne_eqb (kind_of w) 15 (λ q. omega arith)
      go (closes d i l e) = absurd (unstored (sym (ap (λ (a : Reading). a.outcome) e) ∙ o))

  complete-end : (s : Settings) → (read_of p w).outcome ≡ Complete s → is_end w ≡ true
  unfolding checksum_of
  complete-end s o = go (accepted-by p w (ap outcome_number o))
    where
      go : AcceptedBy p w → is_end w ≡ true
      go (begins i k e) = absurd (unstored (sym o ∙ ap (λ (a : Reading). a.outcome) e))
      go (keeps d l k i e) = absurd (unstored (sym o ∙ ap (λ (a : Reading). a.outcome) e))
      go (closes d i l e) = eq-eqb (kind_of w) 15 (omega arith)

-- ---- the numbers

pub word-numbers : WordNumbers
unfolding word_of
word-numbers a w = go (read_of a.pending w).outcome refl
  where
    b : Axis
    b = with_pending a (read_of a.pending w).pending

    no-case : (o : Outcome) → (read_of a.pending w).outcome ≡ o → outcome_number o ≡ 0 → first_of (tests_of a w) ≡ cond (is_end w && live_of a.motion.state) 7 0
    no-case o e z =
        miss-first (reader.tests_of a.pending w) (live_test a w ∷ [])
        (λ q. omega arith, (λ q. omega arith, (λ q. omega arith, (λ q. omega arith, (λ q. omega arith, (λ q. omega arith, tt))))))
        (sym (numbers a.pending w) ∙ ap outcome_number e ∙ z)

    go : (o : Outcome) → (read_of a.pending w).outcome ≡ o → verdict_number (taken b o).verdict ≡ first_of (tests_of a w)
    go (Refused r) e = sym (hit-first (reader.tests_of a.pending w) (live_test a w ∷ []) (number_of r) (sym (numbers a.pending w) ∙ ap outcome_number e) (not-zero r))
    go Stored e = sym (no-case Stored e refl ∙ rw (stored-no-end a.pending w e))
    go (Complete s) e = live (live_of a.motion.state) refl ∙ sym (no-case (Complete s) e refl ∙ rw (complete-end a.pending w s e))
      where
        live : (l : Bool) → live_of a.motion.state ≡ l → verdict_number (taken b (Complete s)).verdict ≡ cond (live_of a.motion.state) 7 0
        live true h = rw h
        live false h = rw h

pub tick-numbers : TickNumbers
unfolding tick_of answered_in answer_in
tick-numbers a t = go a.active
  where
    go : (x : Active) → (tick_under x a t).answer.number ≡ tick_number x
    go Nothing = refl
    go (Set s) = refl
