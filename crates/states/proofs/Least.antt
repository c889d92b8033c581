-- The count of trailing zeros is the least place whose bit is set.
-- Assumes nothing.
use mathlib.Core.Path.{◌≡◌, refl, sym, ap, ◌∙◌}
use mathlib.Core.Bool.{cond}
use Prim.Native.Nat.{ℕ, zero, suc, ◌+◌, ◌/◌, ◌%◌, ◌^◌}
use native.Mathlib.Nat.{div-div-eq-div-mul, pow-suc, div-one}
use native.Mathlib.Omega.{arith}
use lib.Count.{count_trailing_zeros, under}
use lib.Dec.{eqb}
use Rattle.states.specs.Alarm.{least_set}

-- from a place on, the zeros are those of what is left of the word
from_place : (n place word : ℕ) → least_set n place word ≡ place + count_trailing_zeros n (word / 2 ^ place)
unfolding least_set count_trailing_zeros
from_place zero place word = omega arith
from_place (suc n) place word = go (from_place n (suc place) word) (word / 2 ^ place % 2) refl
  where
    half : word / 2 ^ suc place ≡ word / 2 ^ place / 2
    half = ap (λ (m : ℕ). word / m) (pow-suc 2 place) ∙ sym (div-div-eq-div-mul word (2 ^ place) 2)

    go : least_set n (suc place) word ≡ suc place + count_trailing_zeros n (word / 2 ^ suc place) → (d : ℕ) → word / 2 ^ place % 2 ≡ d
        → cond (eqb d 1) place (least_set n (suc place) word) ≡ place + under d (count_trailing_zeros n (word / 2 ^ place / 2))
    go ih zero e = rw half at ih ∙ omega arith
    go ih (suc zero) e = omega arith
    go ih (suc (suc d)) e = absurd (omega arith)

pub least : (word : ℕ) → count_trailing_zeros 32 word ≡ least_set 32 0 word
least word = sym (from_place 32 0 word ∙ rw (div-one word) (omega arith))
