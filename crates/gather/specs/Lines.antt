-- A line's bytes as they come, whatever the reads cut them into. docs/LINES.md: "What is left, blanks and comment included, is at most 255 bytes."
-- Assumes nothing.
use Rattle.std.specs.Prelude.{ℕ, ◌+◌, ◌-◌, ◌≤◌, min, Bool, cond, List, ◌≡◌, eqb, ltb, length, take, drop, get_or, Option, Some, None}
use Rattle.scan.specs.Bytes.{index_of}
use Rattle.gather.specs.declared.Held.{Held}

-- of a line, the bytes bs have come: a buffer keeps as many of them as it has room for, and beside it stands how many they are, or none where there
-- were more than that
pub record Keeps (line : List ℕ) (came : Option ℕ) (bs : List ℕ) : Type 0 where
  pub count : came ≡ cond (ltb (length line) (length bs)) None (Some (length bs))
  pub bytes : take (length bs) line ≡ take (length line) bs

-- the same with the count as a number, which stays one past the room for more
pub record Counts (line : List ℕ) (n : ℕ) (bs : List ℕ) : Type 0 where
  pub count : n ≡ min (length bs) (length line + 1)
  pub bytes : take (length bs) line ≡ take (length line) bs

-- the same of a buffer with its count
abbrev pub Holds : {room : ℕ} → Held room → List ℕ → Type 0
Holds h bs = Keeps h.bytes h.length bs

-- what a chunk adds to the line: the bytes up to the next LF
abbrev pub part_of : List ℕ → List ℕ
part_of chunk = take (index_of 10 chunk) chunk

-- there is an LF
abbrev pub ends_in : List ℕ → Bool
ends_in chunk = ltb (index_of 10 chunk) (length chunk)

-- where the rest begins: past the LF, or past the chunk where there is none
abbrev pub past_line : List ℕ → ℕ
past_line chunk = index_of 10 chunk + cond (ends_in chunk) 1 0

-- the rest, where there is an LF
abbrev pub rest_of : List ℕ → Option (List ℕ)
rest_of chunk = cond (ends_in chunk) (Some (drop (past_line chunk) chunk)) None

-- "a CR right before that end is no part of it"
unfoldable pub without_cr : List ℕ → List ℕ
without_cr bs = cond (eqb (get_or bs (length bs - 1) 0) 13) (take (length bs - 1) bs) bs

-- a line's text, or that it is too long
abbrev pub fitting_of : List ℕ → Option (List ℕ)
fitting_of text = cond (ltb (length text) 256) (Some text) None

abbrev pub ended_of : List ℕ → Option (List ℕ)
ended_of bs = fitting_of (without_cr bs)

-- in a buffer with room for so many bytes: a line that does not fit there, a CR at its end included, is too long as well. With room for 256
-- that is no line but those that are too long anyway (`room-enough`).
abbrev pub ended_in : ℕ → List ℕ → Option (List ℕ)
ended_in room bs = cond (ltb room (length bs)) None (ended_of bs)

-- a text lies in its buffer
abbrev pub InsideBuffer : Option (List ℕ) → ℕ → Type 0
InsideBuffer (Some text) room = length text ≤ room
InsideBuffer None room = Unit {0}
