-- `spelling::decimal` meets its contract: as many digits as there are reach no further.
-- Assumes nothing.
use Rattle.std.proofs.Common.{◌^◌, length, sym, subst}
use Rattle.spelling.specs.Spelling.{Below}
use Rattle.spelling.proofs.Reach.{digits-below}
use Rattle.spelling.proofs.decimal.Goals as goal

pub returns-clause-digits : goal.returns-clause-digits
returns-clause-digits c =
    let text = c.args.text.now in
    subst (Below (10 ^ length text)) (sym c.spelled.ensures.value) (digits-below 10 10 text)
