-- Where a text that is printed at a place ends.
-- Assumes nothing.
use Prim.Native.Nat.{ℕ, ◌+◌, ◌≤◌, min}
use mathlib.Core.List.{List, ◌++◌}
use mathlib.Core.Path.{◌≡◌, ap}
use native.Mathlib.Omega.{arith}
use lib.ListN.{length, take, length-append, length-take}
use Rattle.page.specs.Page.{Printed}

-- after it, or with the page
pub printed-end : {page page' : List ℕ} {at end : ℕ} {text : List ℕ}
    → Printed page at text page' end → at ≤ length page → end ≡ min (length page) (at + length text)
printed-end {page} {page'} {at} {end} {text} p h =
    let i : end ≤ length page = p.inside h in
    let l : length (take end page') ≡ length (take (length page) (take at page ++ text)) = ap length p.reads in
    omega (arith, p.same_length, simp (length-take, length-append) at l)
