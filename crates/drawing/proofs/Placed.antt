-- Every cell of a rail has a column of the rail's, and its own where there are enough.
-- Assumes nothing.
use Prim.Native.Nat.{ℕ, ◌+◌, ◌*◌, ◌/◌, ◌<◌}
use mathlib.Core.Path.{◌≡◌, ap, ◌∙◌}
use native.Mathlib.Nat.{mul_comm, mul-div_cancel, div-lt_iff_lt-mul, mul-lt-mul_of_pos_right}
use native.Mathlib.Omega.{arith}
use borrow.Author.Tests.{lt-ltb}
use lib.IntN.{pos}
use Rattle.carriage.specs.declared.Rail.{Rail}
use Rattle.drawing.specs.Strip.{columns, column_of}
use Rattle.drawing.specs.Placed.{Placed}

among : (r : Rail) (n : ℕ) → n < r.length → column_of r (pos n) ≡ 1 + n * columns r / r.length
unfolding column_of
among r n h = rw (lt-ltb n r.length h)

below : (n k l : ℕ) → n < l → 0 < k → n * k / l < k
below n k l h p =
    let q : 0 < l = omega arith in
    let m : n * k < k * l = rw (mul_comm k l) (mul-lt-mul_of_pos_right h p) in
    (div-lt_iff_lt-mul q).1 m

pub placed : Placed
placed =
    record {
      least = λ r n h. rw (among r n h) (omega arith);
      most = λ r n h. rw (among r n h) (omega (arith, below n (columns r) r.length h (omega arith)));
      own = λ r n h e. let q : 0 < r.length = omega arith in among r n h ∙ rw e (ap (λ (k : ℕ). 1 + k) (mul-div_cancel n q));
    }
