-- `carriage::switches_at` meets its contract.
-- Assumes nothing.
use Prim.Native.Nat.{◌<◌, ◌^◌}
use native.Mathlib.Omega.{arith}
use lib.IntN.{pos, ◌+ℤ◌}
use mir.Facts.{to_z-of_z}
use mir.Syntax.{w64}
use mir.Val.{SFits}
use Rattle.counts.proofs.Integers.{read-unsigned, mag-add}
use Rattle.carriage.specs.Rail.{switches_at}
use Rattle.carriage.proofs.Ranges.{lt_told, le_told}
use Rattle.carriage.proofs.switches_at.Goals as goal

pub returns : goal.returns
unfolding switches_at
returns c =
    let r = c.args.rail in
    let k : r.cam < 2 ^ 32 = omega arith in
    let m : r.width < 2 ^ 32 = omega arith in
    let l : r.length < 2 ^ 32 = omega arith in
    let fits : SFits w64 (pos r.cam +ℤ pos r.width) = record { sfits = mag-add (pos r.cam) (pos r.width) (2 ^ 63) (omega arith) } in
    rw (
      c.contains.ensures.value,
      le_told,
      lt_told,
      read-unsigned r.cam k,
      read-unsigned r.width m,
      read-unsigned r.length l,
      to_z-of_z fits,
      to_z-of_z c.ranges.cell,
    )
