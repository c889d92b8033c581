-- `kinds::field_ok` meets its contract: each arm settles its place in the table.
-- Assumes nothing.
use Prim.Native.Nat.{ℕ, ◌≤◌}
use mathlib.Core.Path.{◌≡◌, ap, sym}
use mathlib.Core.Bool.{Bool, false}
use native.Mathlib.Omega.{arith}
use lib.ListN.{get_or-eq_default}
use Rattle.kinds.specs.Fields.{fields, field_ok}
use Rattle.kinds.proofs.field_ok.Goals as goal

-- past the table
past : (layout kind x : ℕ) → 15 ≤ kind → field_ok layout kind x ≡ false
unfolding field_ok
past layout kind x h = ap (λ (f : ℕ → Bool). f x) (get_or-eq_default (fields layout) (λ y. false) h)

pub returns-in-2 : goal.returns-in-2
unfolding field_ok
returns-in-2 c = rw (c.in-2.is, c.speed_ok.ensures)

pub returns-in-3 : goal.returns-in-3
unfolding field_ok
returns-in-3 c = rw (c.in-3.is, c.speed_ok-in-3.ensures)

pub returns-in_default : goal.returns-in_default
returns-in_default c = sym (past c.args.layout c.args.kind c.args.value (omega arith))
