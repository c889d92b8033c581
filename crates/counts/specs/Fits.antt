-- Whether a number fits so many bits signed.
-- Assumes nothing.
use Rattle.std.specs.Prelude.{ℕ, ◌-◌, ◌^◌, Bool, ◌&&◌, ℤ, pos, neg_ℤ}
use Rattle.std.specs.Int.Signed.{le_z, lt_z}

-- from −2 ^ (bits − 1) to 2 ^ (bits − 1) − 1
unfoldable pub fits : ℕ → ℤ → Bool
fits bits z = lt_z z (pos (2 ^ (bits - 1))) && le_z (neg_ℤ (pos (2 ^ (bits - 1)))) z
