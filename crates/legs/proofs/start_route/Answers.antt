-- `legs::start_route` fits 24 bits: it is the definition's route, whichever it picks.
-- Assumes nothing.
use mathlib.Core.Path.{◌≡◌, sym, ◌∙◌}
use Rattle.legs.specs.Events.{switches_in}
use Rattle.legs.specs.Numbers.{start_route}
use Rattle.legs.proofs.Rows.{start_by, start_small}
use Rattle.legs.proofs.start_route.Goals as goal

pub returns-then-method-is_on-clause-small : goal.returns-then-method-is_on-clause-small
returns-then-method-is_on-clause-small c =
    let x = c.args in
    let e : c.skip_route.result ≡ start_route x.method (switches_in x.switches) =
    c.skip_route.ensures ∙ sym (start_by x.method x.switches ∙ rw (← c.main_route-main.ensures, ← c.is_on.ensures, c.if-method-is_on.true)) in
    rw e (start_small x.method (switches_in x.switches))

pub returns-else-method-is_on-clause-small : goal.returns-else-method-is_on-clause-small
returns-else-method-is_on-clause-small c =
    let x = c.args in
    let e : c.main_route-main.result ≡ start_route x.method (switches_in x.switches) =
    c.main_route-main.ensures ∙ sym (start_by x.method x.switches ∙ rw (← c.main_route-main.ensures, ← c.is_on.ensures, c.if-method-is_on.false)) in
    rw e (start_small x.method (switches_in x.switches))
