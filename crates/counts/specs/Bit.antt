-- The bits of a word, by their places from 0 on.
-- Assumes nothing.
use Rattle.std.specs.Prelude.{ℕ, ◌/◌, ◌%◌, ◌^◌, Bool, not, ◌&&◌, eqb}

abbrev pub bit_of : ℕ → ℕ → Bool
bit_of word place = eqb (word / 2 ^ place % 2) 1

-- on now and not before
abbrev pub rises : Bool → Bool → Bool
rises before now = not before && now
