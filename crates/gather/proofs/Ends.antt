-- The text of a line that has ended.
-- Assumes nothing.
use Prim.Native.Nat.{ℕ, suc, ◌+◌, ◌-◌, ◌≤◌, ◌<◌}
use mathlib.Core.Bool.{Bool, true, false, cond, ◌&&◌}
use mathlib.Core.List.{List, [], ◌∷◌}
use mathlib.Core.Path.{◌≡◌, refl, sym, ◌∙◌}
use native.Mathlib.Omega.{arith}
use borrow.Author.Tests.{ltb-true, le-ltb}
use lib.Dec.{eqb, ltb}
use lib.ListN.{length, take, drop, get_or, length-take, drop_of_length-le}
use lib.Pointwise.{pointwise}
use lib.Seq.{drop-cons}
use Rattle.std.specs.Prelude.{Option, Some, None, MatchOption, unwrap_or}
use Rattle.std.specs.Borrow.{Bor}
use Rattle.gather.specs.Lines.{without_cr, ended_of, ended_in}

-- the last byte is a CR
last_is : (s : List ℕ) → pointwise eqb (drop (length s - 1) s) (13 ∷ []) ≡ eqb (get_or s (length s - 1) 0) 13
last_is [] = refl
last_is (y ∷ ys) =
    let h : length (y ∷ ys) - 1 < length (y ∷ ys) = omega arith in
    let past : length (y ∷ ys) ≤ suc (length (y ∷ ys) - 1) = omega arith in
    rw (drop-cons (y ∷ ys) (length (y ∷ ys) - 1) 0 h, drop_of_length-le (y ∷ ys) past) (go (eqb (get_or (y ∷ ys) (length (y ∷ ys) - 1) 0) 13))
  where
    go : (t : Bool) → t && true ≡ t
    go true = refl
    go false = refl

pub cr_stripped : (s : List ℕ) (r : Option (Bor (List ℕ))) (d : Bor (List ℕ)) → d.now ≡ s
    → MatchOption r (pointwise eqb (drop (length s - 1) s) (13 ∷ []) ≡ false)
    (λ x. (pointwise eqb (drop (length s - 1) s) (13 ∷ []) ≡ true) × (x.now ≡ take (length s - 1) s) × (length x.now + 1 ≡ length s))
    → (unwrap_or r d).now ≡ without_cr s
unfolding without_cr
cr_stripped s None d e m = rw (sym (last_is s) ∙ m) e
cr_stripped s (Some x) d e m = rw (sym (last_is s) ∙ m.0) m.1

-- a line has one byte more than its text at most
at_least : (bs : List ℕ) → length bs ≤ suc (length (without_cr bs))
unfolding without_cr
at_least bs = go (eqb (get_or bs (length bs - 1) 0) 13)
  where
    go : (t : Bool) → length bs ≤ suc (length (cond t (take (length bs - 1) bs) bs))
    go true = omega (arith, length-take (length bs - 1) bs)
    go false = omega arith

-- room for 256 bytes is room for every line: what does not fit there is too long anyway
pub room-enough : (room : ℕ) (bs : List ℕ) → 256 ≤ room → ended_in room bs ≡ ended_of bs
room-enough room bs r = go (ltb room (length bs)) refl
  where
    go : (t : Bool) → ltb room (length bs) ≡ t → cond t None (ended_of bs) ≡ ended_of bs
    go true m = rw (le-ltb (length (without_cr bs)) 256 (omega (arith, r, at_least bs, ltb-true room (length bs) m)))
    go false m = refl
