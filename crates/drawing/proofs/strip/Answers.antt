-- `drawing::strip` meets its contract: one more column is printed.
-- Assumes nothing.
use Rattle.std.proofs.Common.{◌∷◌, [], sym, ap, ◌∙◌, add-one}
use Rattle.page.specs.Page.{seen, printed}
use Rattle.page.proofs.Printing.{printed_nothing, and_then}
use Rattle.drawing.specs.Strip.{glyphs}
use Rattle.drawing.proofs.strip.Goals as goal

pub loop-column-init : goal.loop-column-init
unfolding glyphs
loop-column-init c = sym (printed_nothing (seen c.args.page.now))

pub loop-column-preserved : goal.loop-column-preserved
unfolding glyphs
loop-column-preserved c =
    let l = c.loop-column in
    rw (add-one l.column)
    (and_then (seen c.args.page.now) (seen l.page) (seen c.byte.new.self) _ _ l.invariant (c.byte.ensures ∙ ap (λ x. printed (seen l.page) (x ∷ [])) c.glyph_at.ensures))
