-- `writer::option_data` meets its contract: an option is below 2 ^ 8, and a torque above it fits the word.
-- Assumes nothing.
use native.Mathlib.Omega.{arith}
use borrow.Author.Tests.{leb-true}
use Rattle.settings.proofs.Within.{within}
use Rattle.words.proofs.Widths.{option-below}
use Rattle.writer.proofs.option_data.Goals as goal

pub overflow_mul-result : goal.overflow_mul-result
overflow_mul-result c = let w = within c.args.s c.requires in record { fits = omega (arith, leb-true c.args.s.homing 3000 w.homing) }

pub overflow_add-result : goal.overflow_add-result
overflow_add-result c =
    let w = within c.args.s c.requires in
    record { fits = omega (arith, leb-true c.args.s.homing 3000 w.homing, option-below c.args.s.option w.option) }
