-- `cells::copy_values` meets its contract: before turn i the words of kinds 1 to i − 1 are copied.
-- Assumes nothing.
use Rattle.std.proofs.Common.{◌≡◌, ◌-◌, ◌≤◌}
use Rattle.cells.specs.Writes.{copied}
use Rattle.cells.proofs.copy_values.Given as goal

abbrev pub invariant-loop-i : goal.invariant-loop-i
invariant-loop-i l = (1 ≤ l.i) × (l.i ≤ 14) × (l.axis ≡ copied (l.i - 1) l.initial.axis)

abbrev pub decreases-loop-i : goal.decreases-loop-i
decreases-loop-i l = 14 - l.i
