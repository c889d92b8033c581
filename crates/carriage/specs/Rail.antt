-- 02, (vii): a paper rail, when it is unfit (12), its switches by cell, and the carriage's way in a tick.
-- Assumes nothing.
use Rattle.std.specs.Prelude.{ℕ, ◌+◌, ◌^◌, Bool, false, cond, ◌&&◌, leb, ℤ, pos, neg_ℤ}
use Rattle.std.specs.Int.Signed.{lt_z, le_z}
use Rattle.counts.specs.Between.{between}
use Rattle.legs.specs.declared.events.Switches.{Switches}
use Rattle.legs.specs.Legs.{Leg}
use Rattle.carriage.specs.declared.Rail.{Rail}

-- "L, u, w, f and s are 1 to 2^20"
unfoldable pub sized : ℕ → Bool
sized n = between 1 (2 ^ 20) n

unfoldable pub sizes_fit : Rail → Bool
sizes_fit r = sized r.length && sized r.cam && sized r.width && sized r.fast && sized r.slow

-- "the number of ticks 1 to 2^24"
unfoldable pub ticks_fit : ℕ → Bool
ticks_fit n = between 1 (2 ^ 24) n

-- 12 where "u + w exceeds L"
unfoldable pub cam_fits : Rail → Bool
cam_fits r = leb (r.cam + r.width) r.length

-- "from 0 to L − 1"
unfoldable pub on_rail : Rail → ℤ → Bool
on_rail r start = le_z (pos 0) start && lt_z start (pos r.length)

-- "12, rail unfit, when one of these is outside its range, u + w exceeds L or the start is not from 0 to L − 1"
unfoldable pub rail_fits : Rail → ℤ → ℕ → Bool
rail_fits r start ticks = sizes_fit r && ticks_fit ticks && cam_fits r && on_rail r start

-- "A rail has NOT on below cell 0, POT from cell L on, a cam from u to u + w − 1, and no Z."
unfoldable pub switches_at : Rail → ℤ → Switches
switches_at r x =
    record {
      positive = le_z (pos r.length) x;
      negative = lt_z x (pos 0);
      home = le_z (pos r.cam) x && lt_z x (pos (r.cam + r.width));
      index = false;
    }

-- "f or s cells, as the [...] leg is F or S"
abbrev pub cells_of : Rail → Leg → ℕ
cells_of r l = cond l.fast r.fast r.slow

-- "in that leg's direction"
unfoldable pub stride_of : Rail → Leg → ℤ
stride_of r l = cond l.forward (pos (cells_of r l)) (neg_ℤ (pos (cells_of r l)))
