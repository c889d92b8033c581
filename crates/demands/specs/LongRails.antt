-- 02, (iv): closed examples of layout 2. Lists of settings words and ticks to the fresh axis, and what the writer does with settings; the checker
-- evaluates them in `Examples.antt`.
-- Assumes nothing.
use Rattle.std.specs.Prelude.{ℕ, ◌+◌, ◌-◌, ◌^◌, Bool, List, [], ◌∷◌, ◌++◌, map, eqb, ℤ, pos, take, drop, replicate}
use Rattle.counts.specs.Tests.{minus}
use Rattle.settings.specs.declared.Settings.{Settings}
use Rattle.words.specs.Word.{same_words}
use Rattle.words.specs.Encode.{words_of}
use Rattle.words.specs.Decode.{option_from, homing_from, settings_from}
use Rattle.writer.specs.Write.{written}
use Rattle.commands.specs.declared.Command.TheVariants.{Position}
use Rattle.demands.specs.Events.{Event, word}
use Rattle.demands.specs.Sheet.{words_S, settings_S, data_with}
use Rattle.demands.specs.Lists.{off, HOM, ask, start, at, enabling, after, position, same_counts, brings, numbers, writes}

-- S in layout 2: start data 2, kind 14 with the top four bits of −1000 as lower limit, and their part of the sum
unfoldable pub words_S_2 : List ℕ
words_S_2 =
    0x00000002 ∷ 0x10000017 ∷ 0x20004E20 ∷ 0x300003E8 ∷ 0x40000000 ∷ 0x50000003 ∷ 0x60000002 ∷ 0x7FFFFC18 ∷ 0x800003E8 ∷ 0x900003E8
    ∷ 0xA0960320 ∷ 0xB04B012C ∷ 0xC0000002 ∷ 0xD00007D0 ∷ 0xE00000F0 ∷ 0xF0E1631C ∷ []

-- S with other offset and limits, and other data of some kinds
abbrev railed : ℤ → ℤ → ℤ → List (ℕ × ℕ) → Settings
railed offset lower upper changes =
    let d = data_with changes in settings_from offset lower upper (option_from d) (homing_from d) d

-- a gear of 1 to 4
abbrev geared : List (ℕ × ℕ)
geared = (5, 1) ∷ (6, 4) ∷ []

-- limits as far apart as 32 bits allow; and an offset as far from them
abbrev longest : Settings
longest = railed (pos 0) (minus (2 ^ 31)) (pos (2 ^ 31 - 1)) geared

abbrev farthest : Settings
farthest = railed (pos (2 ^ 31 - 1)) (minus (2 ^ 31)) (pos 0) geared

-- homed at 0 by route c under settings in layout 2
abbrev homed_under : Settings → List Event
homed_under s = map word (words_of 2 s) ++ enabling ++ start 10 HOM ∷ at 0 off ∷ []

abbrev follows : Settings → ℤ → List ℤ
follows s target = map position (after (homed_under s) (ask (Position target (pos 0)) ∷ []))

abbrev in_force_S : List ℕ → Bool
in_force_S ws = brings ws settings_S

-- one beyond 28 bits: the offset either way, the lower limit below, the upper above; and all three at their edges
abbrev beyond : List Settings
beyond =
    railed (pos (2 ^ 27)) (pos 0) (pos 1) []
    ∷ railed (minus (2 ^ 27 + 1)) (pos 0) (pos 1) []
    ∷ railed (pos 0) (minus (2 ^ 27 + 1)) (pos 1) []
    ∷ railed (pos 0) (pos 0) (pos (2 ^ 27)) []
    ∷ []

abbrev edges : List Settings
edges = railed (pos (2 ^ 27 - 1)) (minus (2 ^ 27)) (pos (2 ^ 27 - 1)) [] ∷ railed (minus (2 ^ 27)) (minus (2 ^ 27)) (pos (2 ^ 27 - 1)) [] ∷ []

-- a long lower limit above the upper, out of reach, and a method that is none
abbrev crossed : Settings
crossed = railed (pos 0) (pos (2 ^ 31 - 1)) (pos 0) ((1, 0) ∷ [])

unfoldable pub long_rails : List Bool
long_rails =
    -- S in layout 2: its words, each accepted, and then S is in force, in every field
    same_words (words_of 2 settings_S) words_S_2
    ∷ same_words (numbers words_S_2) (replicate 16 0)
    ∷ in_force_S words_S_2
    -- start data 0 or 4: 2
    ∷ same_words (numbers (0 ∷ 4 ∷ [])) (2 ∷ 2 ∷ [])
    -- kind 14 with bit 12 or bit 27 set: 3, and nothing is pending then
    ∷ same_words (numbers (take 14 words_S_2 ++ 0xE0001000 ∷ 0xF0E1722C ∷ [])) (replicate 14 0 ++ 3 ∷ 1 ∷ [])
    ∷ same_words (numbers (take 14 words_S_2 ++ 0xE8000000 ∷ [])) (replicate 14 0 ++ 3 ∷ [])
    -- kind 14 in layout 1: 1; so is an end word where 14 is due
    ∷ same_words (numbers (take 14 words_S ++ 0xE0000000 ∷ [])) (replicate 14 0 ++ 1 ∷ [])
    ∷ same_words (numbers (take 14 words_S_2 ++ 0xF0E1622C ∷ [])) (replicate 14 0 ++ 1 ∷ [])
    -- a sum that leaves kind 14 out: 4
    ∷ same_words (numbers (take 15 words_S_2 ++ 0xF0E1622C ∷ [])) (replicate 15 0 ++ 4 ∷ [])
    -- a start word of another layout halfway begins afresh, either way; a stray start word of layout 2 before a sheet of layout 1 is forgotten
    ∷ in_force_S (take 13 words_S ++ words_S_2)
    ∷ in_force_S (take 15 words_S_2 ++ words_S)
    ∷ in_force_S (2 ∷ words_S)
    -- limits of 2^31 − 1 and −2^31 are in reach by a gear of 1 to 4, and are followed
    ∷ same_words (numbers (words_of 2 longest)) (replicate 16 0)
    ∷ same_counts (follows longest (pos (2 ^ 31 - 1))) (pos (2 ^ 29 - 1) ∷ [])
    ∷ same_counts (follows longest (minus (2 ^ 31))) (minus (2 ^ 29) ∷ [])
    -- a difference of 33 bits, −2^32 + 1, is geared to −2^30, just in reach; by a gear of 1 to 3 it is out of reach: 6
    ∷ same_counts (follows farthest (minus (2 ^ 31))) (minus (2 ^ 30) ∷ [])
    ∷ same_words (drop 15 (numbers (words_of 2 (railed (pos (2 ^ 31 - 1)) (minus (2 ^ 31)) (pos 0) ((5, 1) ∷ (6, 3) ∷ []))))) (6 ∷ [])
    -- each position has its own four bits
    ∷ same_words (drop 14 (words_of 2 (railed (minus (2 ^ 31)) (minus (2 ^ 27 + 1)) (pos (2 ^ 31 - 1)) geared))) (0xE00007F8 ∷ 0xF8E16A22 ∷ [])
    -- the writer fills 15 or 16 words, and keeps the rest
    ∷ same_words (written 1 settings_S (replicate 17 7)) (words_S ++ 7 ∷ 7 ∷ [])
    ∷ same_words (written 2 settings_S (replicate 17 7)) (words_S_2 ++ 7 ∷ [])
    -- 9: fewer words than the layout has, and then nothing is written
    ∷ same_words (writes 1 settings_S 14 ∷ writes 1 settings_S 15 ∷ writes 2 settings_S 15 ∷ writes 2 settings_S 16 ∷ []) (9 ∷ 0 ∷ 9 ∷ 0 ∷ [])
    ∷ same_words (written 2 settings_S (replicate 15 7)) (replicate 15 7)
    -- 10: from 2^27 on, and below −2^27, in layout 1 alone
    ∷ same_words (map (λ s. writes 1 s 16) beyond) (replicate 4 10)
    ∷ same_words (map (λ s. writes 2 s 16) beyond ++ map (λ s. writes 3 s 16) beyond) (replicate 8 0)
    ∷ same_words (map (λ s. writes 1 s 16) edges) (0 ∷ 0 ∷ [])
    -- the order of the tests: each of these meets what comes after it too, where its layout can, but for 11 (`HomingTorque.antt`)
    ∷ same_words (writes 0 crossed 0 ∷ writes 4 crossed 0 ∷ writes (2 ^ 32 - 1) crossed 16 ∷ []) (2 ∷ 2 ∷ 2 ∷ [])
    ∷ same_words (writes 1 crossed 14 ∷ writes 1 crossed 15 ∷ writes 2 crossed 15 ∷ writes 2 crossed 16 ∷ []) (9 ∷ 10 ∷ 9 ∷ 3 ∷ [])
    ∷ eqb (writes 2 (railed (pos 0) (pos (2 ^ 31 - 1)) (pos 0) []) 16) 5
    ∷ []
