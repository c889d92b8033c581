-- How many bytes have come, as a number that stays one past the room and as an Option.
-- Assumes nothing.
use Prim.Native.Nat.{ℕ}
use mathlib.Core.Bool.{Bool, true, false, cond}
use mathlib.Core.List.{List}
use mathlib.Core.Path.{◌≡◌, refl, ap, ◌∙◌}
use native.Mathlib.Omega.{arith}
use borrow.Author.Tests.{ltb-true, ltb-false, le-leb, lt-leb}
use lib.Dec.{ltb, leb}
use lib.ListN.{length}
use Rattle.std.specs.Bool.{then_some}
use Rattle.std.specs.Prelude.{Option, Some, None}
use Rattle.gather.specs.Lines.{Keeps, Counts}

pub taken : (line : List ℕ) (room n : ℕ) (came : Option ℕ) (bs : List ℕ) → length line ≡ room → came ≡ then_some (leb n room) n → Counts line n bs → Keeps line came bs
taken line room n came bs e p c = record { count = p ∙ go (ltb (length line) (length bs)) refl; bytes = c.bytes }
  where
    go : (t : Bool) → ltb (length line) (length bs) ≡ t → then_some (leb n room) n ≡ cond t None (Some (length bs))
    go true h = let g = ltb-true (length line) (length bs) h in rw (lt-leb n room (omega (arith, g, e, c.count))) refl
    go false h =
        let g = ltb-false (length line) (length bs) h in
        let m : n ≡ length bs = omega (arith, g, c.count) in
        rw (le-leb n room (omega (arith, g, e, c.count))) (ap (λ k. Some k) m)
