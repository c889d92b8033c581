-- docs/LINES.md, "A picture": its rows.
-- Assumes nothing.
use Prim.Native.Char.{code}
use Rattle.std.specs.Prelude.{ℕ, ◌+◌, cond, List, [], ◌∷◌, ◌++◌, eqb, ℤ, pos, ◌-ℤ◌}
use Rattle.counts.specs.Wrap.{wrapped}
use Rattle.legs.specs.Numbers.{forward_in, fast_in}
use Rattle.carriage.specs.declared.Rail.{Rail}
use Rattle.simulator.specs.declared.LegRun.{LegRun}
use Rattle.simulator.specs.declared.Stop.{Stop}
use Rattle.simulator.specs.declared.Stop.TheVariants.{None, Homed, Failed, Ticks}
use Rattle.simulator.specs.declared.Trace.{Trace}
use Rattle.numerals.specs.Writing.{decimal, whole}
use Rattle.tokens.specs.Ascii.{ascii}
use Rattle.drawing.specs.declared.Frame.{Frame}
use Rattle.drawing.specs.declared.Mark.{Mark}
use Rattle.drawing.specs.Strip.{column_of, strip_text}

-- "`#` from the column of the cam's first cell to that of its last"
abbrev pub cam : Rail → Mark
cam r =
    record {
      from = column_of r (pos r.cam);
      to = column_of r (pos (r.cam + r.width) -ℤ pos 1);
      body = code "#";
      head = code "#";
    }

-- "`N` in column 0 and `P` in column K + 1; [...] `.` elsewhere"
abbrev pub switches : Frame
switches = record { left = code "N"; right = code "P"; between = code "." }

-- "Then ` cells L`."
abbrev pub rail_row : Rail → List ℕ
rail_row r = strip_text r switches (cam r) ++ (ascii " cells " ++ decimal r.length) ++ ascii "\n"

-- "In all rows but the first columns 0 and K + 1 hold `|`, and the others a space, where no mark stands."
abbrev pub plain : Frame
plain = record { left = code "|"; right = code "|"; between = code " " }

-- one glyph, in a column
abbrev pub point : ℕ → ℕ → Mark
point column glyph = record { from = column; to = column; body = glyph; head = glyph }

-- a glyph in the column of a cell, then a name and a number
abbrev pub point_row : Rail → ℤ → ℕ → List ℕ → ℤ → List ℕ
point_row r cell glyph name n =
    strip_text r plain (point (column_of r cell) glyph) ++ (name ++ whole n) ++ ascii "\n"

-- "`S` in the column of START. Then ` start START`."
abbrev pub start_row : Rail → ℤ → List ℕ
start_row r start = point_row r start (code "S") (ascii " start ") start

-- "from the column of the cell where it began [...] to that of the cell where it ended `=` where the leg is fast and `-` where it is slow; but where
-- it ended `>` where it goes forward and `<` where it goes backward"
abbrev pub leg_mark : Rail → ℤ → LegRun → Mark
leg_mark r from l =
    record {
      from = column_of r from;
      to = column_of r l.cell;
      body = cond (fast_in l.route) (code "=") (code "-");
      head = cond (forward_in l.route) (code ">") (code "<");
    }

-- "Then its direction `+` or `-`, its speed `F` or `S`, and its ticks, as ` +F ticks 1`."
abbrev pub leg_text : LegRun → List ℕ
leg_text l =
    ascii " "
    ++ (cond (forward_in l.route) (code "+") (code "-") ∷ [])
    ++ (cond (fast_in l.route) (code "F") (code "S") ∷ [])
    ++ (ascii " ticks " ++ decimal l.ticks)

-- "one for each leg that ran a tick"
unfoldable pub leg_row : Rail → ℤ → LegRun → List ℕ
leg_row r from l = cond (eqb l.ticks 0) [] (strip_text r plain (leg_mark r from l) ++ leg_text l ++ ascii "\n")

-- the cell where a leg ended that began at a cell; one that did not run left the carriage there
unfoldable pub ended_at : ℤ → LegRun → ℤ
ended_at from l = cond (eqb l.ticks 0) from l.cell

-- "in their order"
abbrev pub legs_of : Trace → List LegRun
legs_of t = t.first ∷ t.second ∷ t.third ∷ t.fourth ∷ []

abbrev pub leg_rows : Rail → ℤ → List LegRun → List ℕ
leg_rows r from [] = []
leg_rows r from (l ∷ ls) = leg_row r from l ++ leg_rows r (ended_at from l) ls

-- "the cell where the run stopped"
abbrev pub last_cell : ℤ → List LegRun → ℤ
last_cell from [] = from
last_cell from (l ∷ ls) = last_cell (ended_at from l) ls

-- "`H`, `E` or `T` [...], as STOP is homed, error or ticks. Then ` home C`, ` error C` or ` stopped C`": C is the cell as the position that the axis
-- was handed there. A refused run has no end.
abbrev pub end_row : Rail → ℤ → Stop → List ℕ
end_row r cell None = []
end_row r cell Homed = point_row r cell (code "H") (ascii " home ") (wrapped cell)
end_row r cell Failed = point_row r cell (code "E") (ascii " error ") (wrapped cell)
end_row r cell Ticks = point_row r cell (code "T") (ascii " stopped ") (wrapped cell)

abbrev pub picture_text : Rail → ℤ → Trace → List ℕ
picture_text r start t =
    rail_row r
    ++ start_row r start
    ++ leg_rows r start (legs_of t)
    ++ end_row r (last_cell start (legs_of t)) t.outcome.stop
