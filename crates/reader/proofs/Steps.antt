-- What one word does, by its kind.
-- Assumes nothing.
use Prim.Native.Nat.{ℕ, ◌<◌, ◌≤◌}
use mathlib.Core.Path.{◌≡◌, refl}
use mathlib.Core.Bool.{Bool, true, false, cond, not, ◌&&◌}
use native.Mathlib.Omega.{arith}
use borrow.Author.Tests.{eq-eqb, ne_eqb, ltb-true, ltb-false}
use lib.Dec.{eqb, ltb}
use Rattle.settings.specs.declared.Refusal.TheVariants.{OutOfSequence}
use Rattle.layouts.specs.Layout.{size}
use Rattle.layouts.proofs.Sizes.{size_below}
use Rattle.reader.specs.Pending.{Pending}
use Rattle.words.specs.Word.{kind_of, data_of}
use Rattle.reader.specs.Read.{due_kind, layout_in, refused, start_read, field_read, end_read, read_of}

never : (b : Bool) → not b && not true ≡ false
never true = refl
never false = refl

module _ (p : Pending) (w : ℕ) where
  pub read-start : kind_of w ≡ 0 → read_of p w ≡ start_read (data_of w)
  unfolding read_of
  read-start k = rw (eq-eqb (kind_of w) 0 k, never (eqb (kind_of w) (due_kind p)))

  pub read_out : (kind_of w ≡ 0 → ⊥) → (kind_of w ≡ due_kind p → ⊥) → read_of p w ≡ refused OutOfSequence
  unfolding read_of
  read_out z n = rw (ne_eqb (kind_of w) 0 z, ne_eqb (kind_of w) (due_kind p) n)

  pub read-end : kind_of w ≡ due_kind p → kind_of w ≡ 15 → read_of p w ≡ end_read p (data_of w)
  unfolding read_of
  read-end d e = rw (eq-eqb (kind_of w) (due_kind p) d, ne_eqb (kind_of w) 0 (λ z. omega arith), eq-eqb (kind_of w) 15 e)

  pub read-field : kind_of w ≡ due_kind p → (kind_of w ≡ 0 → ⊥) → (kind_of w ≡ 15 → ⊥) → read_of p w ≡ field_read p (kind_of w) (data_of w)
  unfolding read_of
  read-field d z e = rw (eq-eqb (kind_of w) (due_kind p) d, ne_eqb (kind_of w) 0 z, ne_eqb (kind_of w) 15 e)

-- a kind that is due and not the end is one of the layout's, and so many words have come
pub due-field : (p : Pending) (k : ℕ) → k ≡ due_kind p → (k ≡ 15 → ⊥) → (k ≡ p.count) × (p.count < size (layout_in p))
due-field p k e z = go (ltb p.count (size (layout_in p))) refl e
  where
    go : (t : Bool) → ltb p.count (size (layout_in p)) ≡ t → k ≡ cond t p.count 15 → (k ≡ p.count) × (p.count < size (layout_in p))
    go true q e = (e, ltb-true p.count (size (layout_in p)) q)
    go false q e = absurd (z e)

-- where the end is due, all of the layout's words have come
pub due-end : (p : Pending) → due_kind p ≡ 15 → size (layout_in p) ≤ p.count
due-end p e = go (ltb p.count (size (layout_in p))) refl e
  where
    go : (t : Bool) → ltb p.count (size (layout_in p)) ≡ t → cond t p.count 15 ≡ 15 → size (layout_in p) ≤ p.count
    go true q e = let h = ltb-true p.count (size (layout_in p)) q in let b = size_below (layout_in p) in absurd (omega arith)
    go false q e = ltb-false p.count (size (layout_in p)) q
