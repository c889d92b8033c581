-- What a rail that fits tells of its numbers.
-- Assumes nothing.
use Prim.Native.Nat.{ℕ, ◌+◌, ◌^◌, ◌≤◌, ◌<◌}
use mathlib.Core.Path.{◌≡◌, refl}
use mathlib.Core.Bool.{Bool, true, false, false≢true, ◌&&◌}
use lib.Dec.{leb}
use lib.IntN.{ℤ, pos, negsuc}
use lib.Signed.{le_z, lt_z}
use borrow.Author.Tests.{leb-true, ltb-true}
use Rattle.counts.specs.Between.{between}
use Rattle.carriage.specs.declared.Rail.{Rail}
use Rattle.carriage.specs.Rail.{sized, sizes_fit, ticks_fit, cam_fits, on_rail, rail_fits}

both : (a b : Bool) → a && b ≡ true → (a ≡ true) × (b ≡ true)
both true b e = (refl, e)
both false b e = absurd (false≢true e)

-- between bounds
pub record Within (low high n : ℕ) : Type 0 where
  pub least : low ≤ n
  pub most : n ≤ high

within : (low high n : ℕ) → between low high n ≡ true → Within low high n
within low high n e = let b = both (leb low n) (leb n high) e in record { least = leb-true low n b.0; most = leb-true n high b.1 }

pub record Fitting (r : Rail) (start : ℤ) (n : ℕ) : Type 0 where
  pub length : Within 1 (2 ^ 20) r.length
  pub cam : Within 1 (2 ^ 20) r.cam
  pub width : Within 1 (2 ^ 20) r.width
  pub fast : Within 1 (2 ^ 20) r.fast
  pub slow : Within 1 (2 ^ 20) r.slow
  pub ticks : Within 1 (2 ^ 24) n
  pub cam_end : r.cam + r.width ≤ r.length
  pub cell : ℕ
  pub begins : start ≡ pos cell
  pub on_rail : cell < r.length

size : (n : ℕ) → sized n ≡ true → Within 1 (2 ^ 20) n
unfolding sized
size n e = within 1 (2 ^ 20) n e

record Start (r : Rail) (start : ℤ) : Type 0 where
  cell : ℕ
  is : start ≡ pos cell
  on : cell < r.length

place : (r : Rail) (start : ℤ) → on_rail r start ≡ true → Start r start
unfolding on_rail
place r (pos n) e = record { cell = n; is = refl; on = ltb-true n r.length (both (le_z (pos 0) (pos n)) (lt_z (pos n) (pos r.length)) e).1 }
place r (negsuc n) e = absurd (false≢true (both (le_z (pos 0) (negsuc n)) (lt_z (negsuc n) (pos r.length)) e).0)

pub fitting : (r : Rail) (start : ℤ) (n : ℕ) → rail_fits r start n ≡ true → Fitting r start n
unfolding rail_fits sizes_fit ticks_fit cam_fits
fitting r start n e =
    let d = both (sizes_fit r && ticks_fit n && cam_fits r) (on_rail r start) e in
    let c = both (sizes_fit r && ticks_fit n) (cam_fits r) d.0 in
    let t = both (sizes_fit r) (ticks_fit n) c.0 in
    let s5 = both (sized r.length && sized r.cam && sized r.width && sized r.fast) (sized r.slow) t.0 in
    let s4 = both (sized r.length && sized r.cam && sized r.width) (sized r.fast) s5.0 in
    let s3 = both (sized r.length && sized r.cam) (sized r.width) s4.0 in
    let s2 = both (sized r.length) (sized r.cam) s3.0 in
    let b = place r start d.1 in
    record {
      length = size r.length s2.0;
      cam = size r.cam s2.1;
      width = size r.width s3.1;
      fast = size r.fast s4.1;
      slow = size r.slow s5.1;
      ticks = within 1 (2 ^ 24) n t.1;
      cam_end = leb-true (r.cam + r.width) r.length c.1;
      cell = b.cell;
      begins = b.is;
      on_rail = b.on;
    }
