-- Every row fits 80 characters and its LF, and a picture seven rows: at most 60 columns, and then a name and a number.
-- Assumes nothing.
use Prim.Native.Nat.{ℕ, zero, suc, ◌+◌, ◌*◌, ◌≤◌}
use mathlib.Core.List.{List, [], ◌∷◌}
use mathlib.Core.Path.{◌≡◌, refl}
use native.Mathlib.Omega.{arith}
use lib.Dec.{eqb}
use lib.IntN.{ℤ}
use lib.ListN.{length, length-append}
use Rattle.counts.specs.Wrap.{wrapped}
use Rattle.counts.proofs.Modulo.{wrapped-fits}
use Rattle.carriage.specs.declared.Rail.{Rail}
use Rattle.simulator.specs.declared.LegRun.{LegRun}
use Rattle.simulator.specs.declared.Stop.{Stop}
use Rattle.simulator.specs.declared.Stop.TheVariants.{None, Homed, Failed, Ticks}
use Rattle.simulator.specs.declared.Trace.{Trace}
use Rattle.numerals.specs.Writing.{decimal, whole}
use Rattle.tokens.specs.Ascii.{ascii}
use Rattle.drawing.specs.declared.Frame.{Frame}
use Rattle.drawing.specs.declared.Mark.{Mark}
use Rattle.drawing.specs.Strip.{columns, glyph_at, glyphs, strip_text}
use Rattle.drawing.specs.Picture.{rail_row, point_row, start_row, leg_text, leg_row, end_row, picture_text}
use Rattle.drawing.specs.Fits.{RowsFit, PictureFits, PictureBounded}
use Rattle.numerals.proofs.Short.{Short, is, both, all, either, within, decimal-short, whole-short, decimal-below, whole_below}

glyphs-length : (k : ℕ) (f : Frame) (m : Mark) (n : ℕ) → length (glyphs k f m n) ≡ n
unfolding glyphs
glyphs-length k f m zero = refl
glyphs-length k f m (suc n) = omega (arith, length-append (glyphs k f m n) (glyph_at k f m n ∷ []), glyphs-length k f m n)

strip-short : (r : Rail) (f : Frame) (m : Mark) → Short 60 (strip_text r f m)
strip-short r f m = is (omega (arith, glyphs-length (columns r) f m (columns r + 2)))

-- ---- rows, by the digits of their number

rail-short : {d : ℕ} (r : Rail) → Short d (decimal r.length) → Short (71 + d) (rail_row r)
rail-short r h = within (both (both (strip-short r _ _) (both (all (ascii " cells ")) h)) (all (ascii "\n"))) (omega arith)

point-short : {d : ℕ} (r : Rail) (cell : ℤ) (glyph : ℕ) (name : List ℕ) (n : ℤ) → Short 9 name → Short (suc d) (whole n)
    → Short (71 + d) (point_row r cell glyph name n)
point-short r cell glyph name n h k = within (both (both (strip-short r _ _) (both h k)) (all (ascii "\n"))) (omega arith)

start-short : {d : ℕ} (r : Rail) (start : ℤ) → Short (suc d) (whole start) → Short (71 + d) (start_row r start)
start-short r start h = point-short r start _ (ascii " start ") start (is (omega arith)) h

leg-text-short : {d : ℕ} (l : LegRun) → Short d (decimal l.ticks) → Short (10 + d) (leg_text l)
leg-text-short l h = within (both (both (both (all (ascii " ")) (all (_ ∷ []))) (all (_ ∷ []))) (both (all (ascii " ticks ")) h)) (omega arith)

leg-short : {d : ℕ} (r : Rail) (from : ℤ) (l : LegRun) → Short d (decimal l.ticks) → Short (71 + d) (leg_row r from l)
unfolding leg_row
leg-short r from l h =
    either (eqb l.ticks 0) (is (omega arith)) (within (both (both (strip-short r _ _) (leg-text-short l h)) (all (ascii "\n"))) (omega arith))

wrapped-short : (z : ℤ) → Short 11 (whole (wrapped z))
wrapped-short z = whole_below (wrapped z) (omega (arith, (wrapped-fits z).sfits))

end_short : (r : Rail) (cell : ℤ) (s : Stop) → Short 81 (end_row r cell s)
end_short r cell None = is (omega arith)
end_short r cell Homed = point-short r cell _ (ascii " home ") (wrapped cell) (is (omega arith)) (wrapped-short cell)
end_short r cell Failed = point-short r cell _ (ascii " error ") (wrapped cell) (is (omega arith)) (wrapped-short cell)
end_short r cell Ticks = point-short r cell _ (ascii " stopped ") (wrapped cell) (is (omega arith)) (wrapped-short cell)

pub rows_fit : RowsFit
rows_fit =
    record {
      rail = λ r h. (rail-short r (decimal-below r.length (omega arith))).short;
      start = λ r z h. (start-short r z (whole_below z (omega arith))).short;
      leg = λ r from l h. (leg-short r from l (decimal-below l.ticks (omega arith))).short;
      end = λ r cell s. (end_short r cell s).short;
    }

-- ---- all rows

picture-short : {d : ℕ} (r : Rail) (start : ℤ) (t : Trace) → 10 ≤ d → Short d (decimal r.length) → Short (suc d) (whole start)
    → Short d (decimal t.first.ticks) → Short d (decimal t.second.ticks) → Short d (decimal t.third.ticks) → Short d (decimal t.fourth.ticks)
    → Short (7 * (71 + d)) (picture_text r start t)
picture-short r start t h cells begins first second third fourth =
    within
    (both
    (both
    (both (rail-short r cells) (start-short r start begins))
    (both (leg-short r _ t.first first) (both (leg-short r _ t.second second) (both (leg-short r _ t.third third) (both (leg-short r _ t.fourth fourth) (all []))))))
    (end_short r _ t.outcome.stop))
    (omega (arith, h))

pub picture-fits : PictureFits
picture-fits r start t h =
    (picture-short r start t (omega arith)
    (decimal-below r.length (omega (arith, h.cells)))
    (whole_below start (omega (arith, h.begins)))
    (decimal-below t.first.ticks (omega (arith, h.first)))
    (decimal-below t.second.ticks (omega (arith, h.second)))
    (decimal-below t.third.ticks (omega (arith, h.third)))
    (decimal-below t.fourth.ticks (omega (arith, h.fourth)))
    ).short

pub picture-bounded : PictureBounded
picture-bounded r start t =
    (picture-short r start t (omega arith)
    (decimal-short r.length)
    (whole-short start)
    (decimal-short t.first.ticks)
    (decimal-short t.second.ticks)
    (decimal-short t.third.ticks)
    (decimal-short t.fourth.ticks)
    ).short
