-- 02, (v): closed examples of layout 3 and of the homing torque. Lists of settings words and ticks to the fresh axis, and what the writer does with
-- settings; the checker evaluates them in `Examples.antt`.
-- Assumes nothing.
use Rattle.std.specs.Prelude.{ℕ, ◌+◌, ◌*◌, ◌^◌, Bool, List, [], ◌∷◌, ◌++◌, map, eqb, ℤ, pos, take, drop, replicate}
use Rattle.counts.specs.Tests.{minus}
use Rattle.settings.specs.declared.Settings.{Settings}
use Rattle.words.specs.Word.{same_words}
use Rattle.words.specs.Encode.{words_of}
use Rattle.words.specs.Decode.{settings_from}
use Rattle.writer.specs.Write.{written}
use Rattle.commands.specs.declared.Command.TheVariants.{Homing, Position, Torque}
use Rattle.torque.specs.declared.LimitSet.TheVariants.{Set2}
use Rattle.demands.specs.Events.{Event, word}
use Rattle.demands.specs.Sheet.{words_S, settings_S, data_with, S_with}
use Rattle.demands.specs.LongRails.{words_S_2}
use Rattle.demands.specs.Lists.{moving_tick, ask, ask_in, hybrid, enabling, after, torque, status, same_counts, brings, numbers, writes}

-- S in layout 3: start data 3, the maximum, 1000, as homing torque in bits 8 to 19 of kind 12, kind 14, and the sum
unfoldable pub words_S_3 : List ℕ
words_S_3 =
    0x00000003 ∷ 0x10000017 ∷ 0x20004E20 ∷ 0x300003E8 ∷ 0x40000000 ∷ 0x50000003 ∷ 0x60000002 ∷ 0x7FFFFC18 ∷ 0x800003E8 ∷ 0x900003E8
    ∷ 0xA0960320 ∷ 0xB04B012C ∷ 0xC003E802 ∷ 0xD00007D0 ∷ 0xE00000F0 ∷ 0xF0E54B1D ∷ []

-- S with another maximum and homing torque, and an offset
abbrev capped_from : ℤ → ℕ → ℕ → Settings
capped_from offset maximum homing =
    settings_from offset settings_S.lower settings_S.upper settings_S.option homing (data_with ((9, maximum) ∷ []))

abbrev capped : ℕ → ℕ → Settings
capped maximum homing = capped_from (pos 0) maximum homing

-- the words of settings in a layout, and then enabled
abbrev enabled_by : ℕ → Settings → List Event
enabled_by layout s = map word (words_of layout s) ++ enabling

-- torque requests of 900 with set 1 (800 and −600): either way in modes 6 and 8, forward in 10 and again in 6; and either way in 6 with set 2 (300 each way)
abbrev requests : List Event
requests =
    ask (Homing (pos 900)) ∷ ask (Homing (minus 900)) ∷ ask (Position (pos 0) (pos 900)) ∷ ask (Position (pos 0) (minus 900)) ∷ ask (Torque (pos 900))
    ∷ ask (Homing (pos 900)) ∷ ask_in Set2 (Homing (pos 900)) ∷ ask_in Set2 (Homing (minus 900)) ∷ []

abbrev torques : List Event → List ℤ
torques before = map torque (after before requests)

-- into Quick stop active with mode 6 shown, then, still in it, mode 10
abbrev stopping : List Event
stopping = moving_tick 0x0002 (Homing (pos 900)) ∷ moving_tick 0x0002 (Homing (minus 900)) ∷ moving_tick 0x0002 (Torque (pos 900)) ∷ []

-- S in some layout as far as kind 11, then kind 12 with some data, then kind 13
abbrev with_option : ℕ → ℕ → List ℕ
with_option layout x = layout ∷ drop 1 (take 12 words_S_3) ++ (0xC0000000 + x) ∷ 0xD00007D0 ∷ []

abbrev option_numbers : ℕ → ℕ → List ℕ
option_numbers layout x = drop 12 (numbers (with_option layout x))

unfoldable pub homing_torques : List Bool
homing_torques =
    -- S in layout 3: its words, each accepted, and then S is in force, in every field; with another homing torque, that one is
    same_words (words_of 3 settings_S) words_S_3
    ∷ same_words (numbers words_S_3) (replicate 16 0)
    ∷ brings words_S_3 settings_S
    ∷ brings (words_of 3 (capped 1000 250)) (capped 1000 250)
    ∷ brings (words_of 3 (capped 1000 3000)) (capped 1000 3000)
    ∷ brings (words_of 3 (capped_from (pos (2 ^ 27)) 1000 250)) (capped_from (pos (2 ^ 27)) 1000 250)
    -- "Layouts 1 and 2 read as homing torque equal to the maximum": of the same sheet, also after another
    ∷ brings (S_with ((9, 700) ∷ [])) (capped 700 700)
    ∷ brings (words_of 3 (capped 1000 250) ++ S_with ((9, 700) ∷ [])) (capped 700 700)
    ∷ brings (words_of 3 (capped 1000 250) ++ words_S_2) settings_S
    -- a start word of another layout halfway begins afresh
    ∷ brings (take 14 words_S_3 ++ words_S) settings_S
    ∷ brings (take 13 words_S ++ words_S_3) settings_S
    -- homing torque below both others: it caps in mode 6 and not in 8 or 10
    ∷ same_counts (torques (enabled_by 3 (capped 1000 250))) (pos 250 ∷ minus 250 ∷ pos 800 ∷ minus 600 ∷ pos 800 ∷ pos 250 ∷ pos 250 ∷ minus 250 ∷ [])
    -- nor in hybrid, where KP 2, pd 0.5 asks for 500
    ∷ same_counts (map torque (after (enabled_by 3 (capped 1000 250)) (ask (hybrid 0x4000_0000 0 0x3f00_0000 0 0) ∷ []))) (pos 500 ∷ [])
    -- between them: the least of three
    ∷ same_counts (torques (enabled_by 3 (capped 1000 700))) (pos 700 ∷ minus 600 ∷ pos 800 ∷ minus 600 ∷ pos 800 ∷ pos 700 ∷ pos 300 ∷ minus 300 ∷ [])
    -- above the maximum it changes nothing
    ∷ same_counts (torques (enabled_by 3 (capped 500 2000))) (pos 500 ∷ minus 500 ∷ pos 500 ∷ minus 500 ∷ pos 500 ∷ pos 500 ∷ pos 300 ∷ minus 300 ∷ [])
    -- 0: no torque in mode 6
    ∷ same_counts (torques (enabled_by 3 (capped 1000 0))) (pos 0 ∷ pos 0 ∷ pos 800 ∷ minus 600 ∷ pos 800 ∷ pos 0 ∷ pos 0 ∷ pos 0 ∷ [])
    -- a layout 1 sheet with maximum 700 homes with 700, also after a homing torque of 250
    ∷ same_counts (torques (map word (S_with ((9, 700) ∷ [])) ++ enabling)) (pos 700 ∷ minus 600 ∷ pos 700 ∷ minus 600 ∷ pos 700 ∷ pos 700 ∷ pos 300 ∷ minus 300 ∷ [])
    ∷ same_counts (take 1 (torques (map word (words_of 3 (capped 1000 250) ++ S_with ((9, 700) ∷ [])) ++ enabling))) (pos 700 ∷ [])
    -- in Quick stop active it caps too, by the shown mode
    ∷ same_words (map status (after (enabled_by 3 (capped 1000 250) ++ ask (Homing (pos 0)) ∷ []) stopping)) (0x0617 ∷ 0x0617 ∷ 0x0217 ∷ [])
    ∷ same_counts (map torque (after (enabled_by 3 (capped 1000 250) ++ ask (Homing (pos 0)) ∷ []) stopping)) (pos 250 ∷ minus 250 ∷ pos 800 ∷ [])
    -- a command that is not matched has no torque, in whichever mode
    ∷ same_counts (map torque (after (enabled_by 3 (capped 1000 250) ++ ask (Torque (pos 0)) ∷ []) (moving_tick 0x000F (Homing (pos 900)) ∷ []))) (pos 0 ∷ [])
    -- kind 12 of layout 3: options 2 and 6 and homing torques of 0 and 3000; not 3001, nor 4095, nor another option
    ∷ same_words (option_numbers 3 (0 * 2 ^ 8 + 2)) (0 ∷ 0 ∷ [])
    ∷ same_words (option_numbers 3 (3000 * 2 ^ 8 + 6)) (0 ∷ 0 ∷ [])
    ∷ same_words (option_numbers 3 (3001 * 2 ^ 8 + 6)) (3 ∷ 1 ∷ [])
    ∷ same_words (option_numbers 3 (4095 * 2 ^ 8 + 2)) (3 ∷ 1 ∷ [])
    ∷ same_words (option_numbers 3 (1000 * 2 ^ 8 + 3)) (3 ∷ 1 ∷ [])
    ∷ same_words (option_numbers 3 (1000 * 2 ^ 8 + 0x82)) (3 ∷ 1 ∷ [])
    -- bits 20 to 27 are zero
    ∷ same_words (option_numbers 3 (2 ^ 20 + 1000 * 2 ^ 8 + 2)) (3 ∷ 1 ∷ [])
    ∷ same_words (option_numbers 3 (2 ^ 27 + 1000 * 2 ^ 8 + 2)) (3 ∷ 1 ∷ [])
    -- in layouts 1 and 2 as before: the option alone
    ∷ same_words (option_numbers 2 2 ++ option_numbers 1 6) (0 ∷ 0 ∷ 0 ∷ 0 ∷ [])
    ∷ same_words (option_numbers 2 (1000 * 2 ^ 8 + 2) ++ option_numbers 1 (1000 * 2 ^ 8 + 2)) (3 ∷ 1 ∷ 3 ∷ 1 ∷ [])
    -- the writer fills 16 words, and keeps the rest; 9 below that
    ∷ same_words (written 3 settings_S (replicate 17 7)) (words_S_3 ++ 7 ∷ [])
    ∷ same_words (writes 3 settings_S 15 ∷ writes 3 settings_S 16 ∷ []) (9 ∷ 0 ∷ [])
    -- 11: where homing torque differs from the maximum, in layouts 1 and 2 alone; the values are compared, whatever their effect
    ∷ same_words (map (λ s. writes 1 s 16) (capped 1000 250 ∷ capped 1000 1001 ∷ capped 1000 1000 ∷ [])) (11 ∷ 11 ∷ 0 ∷ [])
    ∷ same_words (map (λ s. writes 2 s 16) (capped 1000 250 ∷ capped 1000 1001 ∷ capped 1000 1000 ∷ [])) (11 ∷ 11 ∷ 0 ∷ [])
    ∷ same_words (map (λ s. writes 3 s 16) (capped 1000 250 ∷ capped 1000 1001 ∷ capped 1000 1000 ∷ [])) (0 ∷ 0 ∷ 0 ∷ [])
    ∷ same_words (written 2 (capped 1000 250) (replicate 16 7)) (replicate 16 7)
    -- both out of range alike: 3; in layout 3 the homing torque alone too
    ∷ same_words (writes 1 (capped 3001 3001) 16 ∷ writes 2 (capped 3001 3001) 16 ∷ writes 3 (capped 1000 3001) 16 ∷ []) (3 ∷ 3 ∷ 3 ∷ [])
    -- the order of the tests: 2, then 9, then 10, then 11, then 3
    ∷ eqb (writes 4 (capped 1000 3001) 0) 2
    ∷ same_words (writes 2 (capped 1000 3001) 15 ∷ writes 2 (capped 1000 3001) 16 ∷ []) (9 ∷ 11 ∷ [])
    ∷ same_words (writes 1 (capped_from (pos (2 ^ 27)) 1000 3001) 14 ∷ writes 1 (capped_from (pos (2 ^ 27)) 1000 3001) 15 ∷ []) (9 ∷ 10 ∷ [])
    ∷ []
