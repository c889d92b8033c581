-- `drawing::leg_row` meets its contract: no row where no tick ran, and else part after part.
-- Assumes nothing.
use mir.Facts.{to_z-of_z}
use mir.Val.{SFits}
use Rattle.std.proofs.Common.{w64, sym, ap, ◌∙◌, eq-eqb, rules}
use borrow.Author.Tests.{ne_eqb}
use Rattle.page.specs.Page.{seen, printed}
use Rattle.page.proofs.Printing.{printed_nothing, and_then}
use Rattle.drawing.specs.Strip.{strip_text}
use Rattle.drawing.specs.Picture.{plain, leg_mark, leg_row, ended_at}
use Rattle.drawing.proofs.leg_row.Goals as goal

pub returns-then-leg-eq0-clause-text : goal.returns-then-leg-eq0-clause-text
unfolding leg_row
returns-then-leg-eq0-clause-text c = rw (eq-eqb _ 0 c.if-leg-eq0.true) (sym (printed_nothing (seen c.args.page.now)))

pub returns-then-leg-eq0-clause-cell : goal.returns-then-leg-eq0-clause-cell
unfolding ended_at
returns-then-leg-eq0-clause-cell c = rw (eq-eqb _ 0 c.if-leg-eq0.true) (to_z-of_z c.ranges.from)

pub returns-clause-text : goal.returns-clause-text
unfolding leg_row
returns-clause-text c =
    let a = c.args in
    rw (ne_eqb _ 0 c.if-leg-eq0.false)
    (and_then (seen a.page.now) (seen c.leg_text.new.page) (seen c.byte.new.self) _ _
    (and_then (seen a.page.now) (seen c.strip.new.page) (seen c.leg_text.new.page) _ _
    (c.strip.ensures
    ∙ ap (λ m. printed (seen a.page.now) (strip_text a.rail plain m)) (c.leg_mark.ensures ∙ ap (λ x. leg_mark a.rail x a.leg) (to_z-of_z c.ranges.from)))
    c.leg_text.ensures)
    c.byte.ensures)

pub returns-clause-cell : goal.returns-clause-cell
unfolding ended_at
returns-clause-cell c =
    let to : SFits w64 c.args.leg.cell = search rules in
    rw (ne_eqb _ 0 c.if-leg-eq0.false) (to_z-of_z to)
