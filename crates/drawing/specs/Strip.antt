-- docs/LINES.md, "A picture": the columns of a rail, and a row's drawing on them.
-- Assumes nothing.
use Rattle.std.specs.Prelude.{ℕ, zero, suc, ◌+◌, ◌*◌, ◌/◌, min, Bool, cond, ◌||◌, List, [], ◌∷◌, ◌++◌, eqb, leb, ltb, ℤ, pos, negsuc}
use Rattle.counts.specs.Between.{between}
use Rattle.carriage.specs.declared.Rail.{Rail}
use Rattle.drawing.specs.declared.Frame.{Frame}
use Rattle.drawing.specs.declared.Mark.{Mark}

-- "K is L, or 58 where L is more"
abbrev pub columns : Rail → ℕ
columns r = min r.length 58

-- "the cell x in column 1 + x K / L, rounded down. Column 0 is for the cells below 0 and column K + 1 for those from L on."
unfoldable pub column_of : Rail → ℤ → ℕ
column_of r (pos n) = cond (ltb n r.length) (1 + n * columns r / r.length) (columns r + 1)
column_of r (negsuc n) = 0

-- "from the column [...] to that of [...]", in either order
abbrev pub spans : Mark → ℕ → Bool
spans m column = between m.from m.to column || between m.to m.from column

-- what stands in a column, of 0 to K + 1
unfoldable pub glyph_at : ℕ → Frame → Mark → ℕ → ℕ
glyph_at k f m column =
    cond (eqb column m.to) m.head
    (cond (spans m column) m.body (cond (eqb column 0) f.left (cond (leb column k) f.between f.right)))

-- the first n columns
unfoldable pub glyphs : ℕ → Frame → Mark → ℕ → List ℕ
glyphs k f m zero = []
glyphs k f m (suc n) = glyphs k f m n ++ (glyph_at k f m n ∷ [])

abbrev pub strip_text : Rail → Frame → Mark → List ℕ
strip_text r f m = glyphs (columns r) f m (columns r + 2)
