-- `gears::quotient` meets its contract: what is left over is below d, and each digit of the quotient below 2 ^ 12.
-- Assumes nothing.
use native.Mathlib.Omega.{arith}
use Rattle.gears.proofs.Digits.{steps-fit, three-steps}
use borrow.Author.Rules.{rules}
use Rattle.gears.proofs.quotient.Goals as goal

pub overflow_add-result-2 : goal.overflow_add-result-2
overflow_add-result-2 c = search (steps-fit, rules)

pub returns : goal.returns
returns c = three-steps c.args.p (omega arith)
