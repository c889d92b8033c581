-- A number lies in a range, below it or above it.
-- Assumes nothing.
use Prim.Native.Nat.{ℕ, ◌≤◌, ◌<◌}
use mathlib.Core.Path.{◌≡◌}
use mathlib.Core.Bool.{true, false}
use borrow.Author.Tests.{le-leb, lt-leb}
use Rattle.counts.specs.Between.{between}

pub within : (low high n : ℕ) → low ≤ n → n ≤ high → between low high n ≡ true
within low high n h k = rw (le-leb low n h, le-leb n high k)

pub under : (low high n : ℕ) → n < low → between low high n ≡ false
under low high n h = rw (lt-leb low n h)

pub over : (low high n : ℕ) → low ≤ n → high < n → between low high n ≡ false
over low high n h k = rw (le-leb low n h, lt-leb n high k)
