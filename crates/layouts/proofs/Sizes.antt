-- How many words come before the end word, whatever the layout: fourteen or more, and all of kinds below 15.
-- Assumes nothing.
use Prim.Native.Nat.{ℕ, ◌≤◌, ◌<◌}
use mathlib.Core.Bool.{Bool, true, false, cond}
use native.Mathlib.Omega.{arith}
use lib.Dec.{eqb}
use Rattle.layouts.specs.Layout.{size}

pub size-least : (layout : ℕ) → 14 ≤ size layout
size-least layout = go (eqb layout 1)
  where
    go : (b : Bool) → 14 ≤ cond b 14 15
    go true = omega arith
    go false = omega arith

pub size_below : (layout : ℕ) → size layout < 16
size_below layout = go (eqb layout 1)
  where
    go : (b : Bool) → cond b 14 15 < 16
    go true = omega arith
    go false = omega arith
