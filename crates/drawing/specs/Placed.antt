-- docs/LINES.md, "A picture": "The cells 0 to L - 1 stand in K columns, 1 to K", and each in its own "where K is L".
-- Assumes nothing.
use Rattle.std.specs.Prelude.{ℕ, ◌≤◌, ◌<◌, ◌+◌, ◌≡◌, pos}
use Rattle.carriage.specs.declared.Rail.{Rail}
use Rattle.drawing.specs.Strip.{columns, column_of}

pub record Placed : Type 0 where
  pub least : (r : Rail) (n : ℕ) → n < r.length → 1 ≤ column_of r (pos n)
  pub most : (r : Rail) (n : ℕ) → n < r.length → column_of r (pos n) ≤ columns r
  pub own : (r : Rail) (n : ℕ) → n < r.length → columns r ≡ r.length → column_of r (pos n) ≡ 1 + n
