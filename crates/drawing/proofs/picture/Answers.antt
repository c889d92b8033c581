-- `drawing::picture` meets its contract: part after part.
-- Assumes nothing.
use Prim.Native.Char.{code}
use mir.Facts.{to_z-of_z}
use mir.Val.{SFits}
use Rattle.std.proofs.Common.{◌≡◌, ℤ, ap, ◌∙◌, w32, w64, to_z, of_z, rules}
use Rattle.counts.proofs.Integers.{wide, widen, read_wide}
use Rattle.carriage.specs.declared.Rail.{Rail}
use Rattle.tokens.specs.Ascii.{ascii}
use Rattle.page.specs.Page.{seen, printed}
use Rattle.page.proofs.Printing.{and_then}
use Rattle.drawing.specs.Picture.{point_row, start_row, leg_rows, last_cell, legs_of, end_row}
use Rattle.drawing.proofs.picture.Goals as goal

-- the start's row, as the machine reads the start
started : (r : Rail) {z : ℤ} → SFits w32 z → point_row r (wide z) (code "S") (ascii " start ") (to_z w32 (of_z w32 z)) ≡ start_row r z
started r f = rw (to_z-of_z f, to_z-of_z (widen f))

pub returns : goal.returns
returns c =
    let a = c.args in
    let f = c.ranges.start in
    let drawn = c.leg_rows-cell in
    let e : SFits w64 drawn.result = search rules in
    let last = to_z-of_z e ∙ drawn.ensures.cell ∙ ap (λ x. last_cell x (legs_of a.trace)) (read_wide f) in
    and_then (seen a.page.now) (seen drawn.new.page) (seen c.end_row.new.page) _ _
    (and_then (seen a.page.now) (seen c.point_row.new.page) (seen drawn.new.page) _ _
    (and_then (seen a.page.now) (seen c.rail_row.new.page) (seen c.point_row.new.page) _ _ c.rail_row.ensures
    (c.point_row.ensures ∙ ap (printed (seen c.rail_row.new.page)) (started a.rail f)))
    (drawn.ensures.text ∙ ap (λ x. printed (seen c.point_row.new.page) (leg_rows a.rail x (legs_of a.trace))) (read_wide f)))
    (c.end_row.ensures ∙ ap (λ x. printed (seen drawn.new.page) (end_row a.rail x a.trace.outcome.stop)) last)
