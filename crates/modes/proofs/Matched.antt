-- A matched command wants the shown mode, so what is asked of the one may be asked of the other.
-- Assumes nothing.
use mathlib.Core.Path.{◌≡◌, refl, sym, ap, ◌∙◌}
use mathlib.Core.Bool.{Bool, true, false, not, ◌&&◌, and-false}
use Prim.Native.Nat.{ℕ}
use lib.Dec.{eqb}
use borrow.Author.Tests.{eqb-true}
use Rattle.modes.specs.declared.Mode.{Mode}
use Rattle.modes.specs.declared.Mode.TheVariants.{None}
use Rattle.modes.specs.Modes.{mode_ordinal, is_mode, matched_of}

-- whatever is asked of a mode by its ordinal, before the test that both are the same
swapped : (f : ℕ → Bool) (w m : Mode) → f (mode_ordinal m) && is_mode w m ≡ f (mode_ordinal w) && is_mode w m
swapped f w m = go (is_mode w m) refl
  where
    go : (b : Bool) → is_mode w m ≡ b → f (mode_ordinal m) && b ≡ f (mode_ordinal w) && b
    go true e = ap (λ (n : ℕ). f n && true) (sym (eqb-true (mode_ordinal w) (mode_ordinal m) e))
    go false e = and-false (f (mode_ordinal m)) ∙ sym (and-false (f (mode_ordinal w)))

pub asked-of-shown : (w m : Mode) → not (is_mode m None) && is_mode w m ≡ matched_of w m
asked-of-shown w m = swapped (λ n. not (eqb n 0)) w m

-- and after it
pub matched-mode : (w m x : Mode) → matched_of w m && is_mode m x ≡ matched_of w m && is_mode w x
matched-mode w m x = go (is_mode w m) refl
  where
    a : Bool
    a = not (is_mode w None)

    go : (b : Bool) → is_mode w m ≡ b → (a && b) && is_mode m x ≡ (a && b) && is_mode w x
    go true e = ap (λ (n : ℕ). (a && true) && eqb n (mode_ordinal x)) (sym (eqb-true (mode_ordinal w) (mode_ordinal m) e))
    go false e = rw (and-false a)
