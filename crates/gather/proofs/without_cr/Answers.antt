-- `without_cr` meets its contract.
-- Assumes nothing.
use mathlib.Core.Path.{refl, ap, ◌∙◌}
use Rattle.gather.proofs.Ends.{cr_stripped}
use Rattle.gather.proofs.without_cr.Goals as goal

pub returns-clause-value : goal.returns-clause-value
returns-clause-value c = ap (λ x. x.now) c.unwrap_or.ensures ∙ cr_stripped c.args.line.now c.strip_suffix.result c.args.line refl c.strip_suffix.ensures.cases
