-- docs/LINES.md, "A picture": "No row is longer than 80 characters", with its LF 81, and there are at most seven. A u32 lies below 2 ^ 32, and
-- `mag` of an i32 below 2 ^ 31; no more is asked of rail, start and run.
-- Assumes nothing.
use Rattle.std.specs.Prelude.{◌*◌, ◌^◌, ◌≤◌, ◌<◌, ℤ, length}
use Rattle.std.specs.Int.Signed.{mag}
use Rattle.carriage.specs.declared.Rail.{Rail}
use Rattle.simulator.specs.declared.LegRun.{LegRun}
use Rattle.simulator.specs.declared.Stop.{Stop}
use Rattle.simulator.specs.declared.Trace.{Trace}
use Rattle.drawing.specs.Picture.{rail_row, start_row, leg_row, end_row, picture_text}

pub record RowsFit : Type 0 where
  pub rail : (r : Rail) → r.length < 2 ^ 32 → length (rail_row r) ≤ 81
  pub start : (r : Rail) (z : ℤ) → mag z < 2 ^ 31 → length (start_row r z) ≤ 81
  pub leg : (r : Rail) (from : ℤ) (l : LegRun) → l.ticks < 2 ^ 32 → length (leg_row r from l) ≤ 81
  pub end : (r : Rail) (cell : ℤ) (s : Stop) → length (end_row r cell s) ≤ 81

-- what the types of a picture's numbers tell
pub record Typed (r : Rail) (start : ℤ) (t : Trace) : Type 0 where
  pub cells : r.length < 2 ^ 32
  pub begins : mag start < 2 ^ 31
  pub first : t.first.ticks < 2 ^ 32
  pub second : t.second.ticks < 2 ^ 32
  pub third : t.third.ticks < 2 ^ 32
  pub fourth : t.fourth.ticks < 2 ^ 32

abbrev pub PictureFits : Type 0
PictureFits = (r : Rail) (start : ℤ) (t : Trace) → Typed r start t → length (picture_text r start t) ≤ 7 * 81

-- the same where the types tell nothing: a number is written in at most 20 digits
abbrev pub PictureBounded : Type 0
PictureBounded = (r : Rail) (start : ℤ) (t : Trace) → length (picture_text r start t) ≤ 7 * 91
