-- What each word leaves, by how it was read. A word that takes nothing over changes at most what is pending, which no tick sees.
-- Assumes nothing.
use Prim.Native.Nat.{ℕ}
use mathlib.Core.Path.{◌≡◌, refl, sym, ap, ◌∙◌}
use mathlib.Core.Bool.{Bool, true, false, ◌&&◌, false≢true}
use mathlib.Core.List.{List, [], ◌∷◌, map}
use native.Mathlib.Omega.{arith}
use borrow.Author.Tests.{eqb-true, eq-eqb}
use Rattle.settings.specs.declared.Settings.{Settings}
use Rattle.settings.proofs.Numbered.{not-zero}
use Rattle.settings.proofs.Within.{both}
use Rattle.layouts.proofs.Sizes.{size_below}
use Rattle.words.specs.Word.{kind_of}
use Rattle.words.specs.Encode.{checksum_of}
use Rattle.words.specs.Decode.{settings_of}
use Rattle.reader.specs.Pending.{Reading}
use Rattle.reader.specs.Read.{empty_pending, complete, layout_in, read_of}
use Rattle.reader.specs.Cases.{is_end}
use Rattle.reader.proofs.Accepted.{ReadBy, refuses, accepted, begins, keeps, closes, read_by}
use Rattle.states.specs.States.{live_of}
use Rattle.answers.specs.declared.Answer.{Answer}
use Rattle.rules.specs.Axis.{Axis, Worded}
use Rattle.rules.specs.Word.{with_pending, taken, word_of}
use Rattle.rules.specs.Tick.{tick_of}
use Rattle.demands.specs.Events.{word, tick}
use Rattle.demands.specs.Whole.{after_takeover}
use Rattle.demands.proofs.Whole.{pending-unseen-from}
use Rattle.independence.specs.Alike.{answers_among, answers_from, ticks_in, taken_over_by}
use Rattle.independence.specs.Takeovers.{TakeoverLeaves, OtherLeaves, WordsUnseen}

module _ (a : Axis) (w : ℕ) where
  -- the axis and the verdict after a word, by what it was read as
  abbrev by : Reading → Worded
  by r = taken (with_pending a r.pending) r.outcome

  as_read : (r : Reading) → read_of a.pending w ≡ r → word_of a w ≡ by r
  unfolding word_of
  as_read r e = ap by e

  abbrev settings : Settings
  settings = settings_of a.pending.values

  -- both laws, of what comes of the word
  abbrev Leaves : Worded → Type 0
  Leaves x =
      (taken_over_by w x.verdict ≡ false → x.axis ≡ with_pending a x.axis.pending)
      × (taken_over_by w x.verdict ≡ true → x.axis ≡ after_takeover settings (with_pending a empty_pending))

  -- an end word that completes settings takes them over exactly where the drive is not live
  closing : (b : Bool) → live_of a.motion.state ≡ b → is_end w ≡ true → Leaves (by (complete settings))
  closing true h i = rw (h, i) (λ n. refl, λ t. absurd (false≢true t))
  closing false h i = rw (h, i) (λ n. absurd (false≢true (sym n)), λ t. refl)

  end : (b : Bool) → is_end w && b ≡ true → kind_of w ≡ 15
  end b t = eqb-true (kind_of w) 15 (both (is_end w) b t).0

  leaves : ReadBy a.pending w → Leaves (word_of a w)
  unfolding checksum_of
  leaves (refuses r e) = rw (as_read _ e) (λ n. refl, λ t. absurd (not-zero r (eqb-true _ 0 (both (is_end w) _ t).1)))
  leaves (accepted (begins i l e)) = rw (as_read _ e) (λ n. refl, λ t. absurd (omega (arith, i, end _ t)))
  leaves (accepted (keeps k h n f e)) = rw (as_read _ e) (λ n. refl, λ t. absurd (omega (arith, k, h, size_below (layout_in a.pending), end _ t)))
  leaves (accepted (closes n i l e)) = rw (as_read _ e) (closing (live_of a.motion.state) refl (eq-eqb (kind_of w) 15 (omega (arith, i))))

pub other-leaves : OtherLeaves
other-leaves a w = (leaves a w (read_by a.pending w)).0

pub takeover-leaves : TakeoverLeaves
takeover-leaves a w = (leaves a w (read_by a.pending w)).1

pub words-unseen : WordsUnseen
words-unseen a [] n = refl
words-unseen a (word w ∷ es) n =
    words-unseen (word_of a w).axis es n.1
    ∙ ap (λ (c : Axis). answers_from c (map tick (ticks_in es))) (other-leaves a w n.0)
    ∙ ap answers_among (pending-unseen-from a (word_of a w).axis.pending (ticks_in es))
words-unseen a (tick t ∷ es) n = ap (λ (answers : List Answer). (tick_of a t).answer ∷ answers) (words-unseen (tick_of a t).axis es n)
