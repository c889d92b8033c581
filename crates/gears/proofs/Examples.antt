-- The examples of `specs/Examples.antt`, which the checker evaluates.
-- Assumes nothing.
use Rattle.std.specs.Prelude.{◌-◌, ◌*◌, ◌^◌, ◌≡◌, refl, [], ◌∷◌, map, pos, None, Some}
use Rattle.counts.specs.Clamp.{clamped}
use Rattle.counts.specs.Divide.{floor_div}
use Rattle.counts.specs.Tests.{minus}
use Rattle.counts.specs.Fits.{fits}
use Rattle.gears.specs.Narrow.{narrowed, narrow_of}
use Rattle.gears.specs.Examples.{sheet, unlimited, answers, products}

-- the rehearsed gear 3 to 2: −5 gears to −8, and a target beyond the limits is clamped first, where alone it would be too wide
pub rehearsed
    : answers (sheet 3 2 (pos 0) (minus 1000) (pos 1000)) (pos 5 ∷ minus 5 ∷ pos (2 ^ 31 - 1) ∷ minus (2 ^ 31) ∷ [])
    ≡ Some (pos 7) ∷ Some (minus 8) ∷ Some (pos 1500) ∷ Some (minus 1500) ∷ []
unfolding narrow_of narrowed fits floor_div clamped
rehearsed = refl

pub edges
    : map (λ p. narrow_of (unlimited p.0 1 (pos 0)) p.1) products
    ≡ Some (pos (2 ^ 31 - 1)) ∷ Some (minus (2 ^ 31)) ∷ None ∷ None ∷ []
unfolding narrow_of narrowed fits floor_div clamped
edges = refl

-- an acceptable sheet at both edges, 2^20 to 2 from −2048 to 2048: −2^31 gears, 2^31 does not, clamped or not
pub both-edges
    : answers (sheet (2 ^ 20) 2 (pos 0) (minus 2048) (pos 2048)) (pos 2047 ∷ pos 2048 ∷ pos 2049 ∷ minus 2048 ∷ minus 2049 ∷ [])
    ≡ Some (pos (2047 * 2 ^ 19)) ∷ None ∷ None ∷ Some (minus (2 ^ 30)) ∷ Some (minus (2 ^ 30)) ∷ []
unfolding narrow_of narrowed fits floor_div clamped
both-edges = refl

-- the product decides, and not the quotient: 1 to 1 as 2^20 to 2^20
pub by_product
    : answers (unlimited (2 ^ 20) (2 ^ 20) (pos 0)) (pos 2047 ∷ pos 2048 ∷ minus 2048 ∷ minus 2049 ∷ [])
    ≡ Some (pos 2047) ∷ None ∷ Some (minus 2048) ∷ None ∷ []
unfolding narrow_of narrowed fits floor_div clamped
by_product = refl

-- differences 2^31 and −2^31 − 1 do not fit, also where the product, with a numerator of 0, does
pub differences
    : map (λ n. answers (unlimited n 1 (minus 1)) (pos (2 ^ 31 - 1) ∷ pos (2 ^ 31 - 2) ∷ [])) (1 ∷ 0 ∷ [])
    ≡ (None ∷ Some (pos (2 ^ 31 - 1)) ∷ []) ∷ (None ∷ Some (pos 0) ∷ []) ∷ []
unfolding narrow_of narrowed fits floor_div clamped
differences = refl

pub differences-below
    : map (λ n. answers (unlimited n 1 (pos 1)) (minus (2 ^ 31) ∷ minus (2 ^ 31 - 1) ∷ [])) (1 ∷ 0 ∷ [])
    ≡ (None ∷ Some (minus (2 ^ 31)) ∷ []) ∷ (None ∷ Some (pos 0) ∷ []) ∷ []
unfolding narrow_of narrowed fits floor_div clamped
differences-below = refl
