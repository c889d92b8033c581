-- 01, "Rehearsed examples": each starred one as a list of settings words and ticks to the fresh axis, in one table; and a table of further
-- lists, one of layout 2 (`LongRails.antt`), one of layout 3 and the homing torque (`HomingTorque.antt`), and one of what the list itself says. The
-- checker evaluates all five. What no answer shows of floats stands in hybrid/specs/Examples.antt, the routes of every method in homing/proofs/Examples.antt.
-- Assumes nothing.
use Rattle.std.specs.Prelude.{ℕ, Bool, true, false, not, List, [], ◌∷◌, ◌++◌, map, eqb, pos, take, drop, replicate}
use Rattle.counts.specs.Bit.{bit_of}
use Rattle.counts.specs.Tests.{minus}
use Rattle.checks.specs.Check.{acceptable}
use Rattle.words.specs.Word.{same_words}
use Rattle.words.specs.Encode.{words_of}
use Rattle.commands.specs.declared.Command.TheVariants.{Homing, Torque, Rest}
use Rattle.legs.specs.Events.{switches_in}
use Rattle.torque.specs.declared.LimitSet.TheVariants.{Set2}
use Rattle.rules.specs.Axis.{Active, Nothing, Set}
use Rattle.demands.specs.Events.{Event, word}
use Rattle.demands.specs.Known.{Since, never, known}
use Rattle.demands.specs.Known.{start as begun}
use Rattle.demands.specs.Replies.{Reply, replies}
use Rattle.demands.specs.Sheet.{words_S, settings_S, S_with}
use Rattle.demands.specs.Lists.{off, HOM, Z, POT, NOT, inputs, still_tick, moving_tick, alarmed, ask, ask_in, hybrid, start, at, halted, released, target, rehearsed, S, with, enabling, enabled, enabled_with, after, number, torque, position, speed, status, alarm, same_counts}

abbrev homed_at_0 : List Event
homed_at_0 = enabled ++ start 10 HOM ∷ at 0 off ∷ []

abbrev targets : List Event
targets = target (pos 5) ∷ target (minus 5) ∷ target (pos 1001) ∷ target (pos 1000) ∷ []

-- homed at 0 with gear 2^20 to 2 from −2048 to 2048, whose greatest products are 2^31 and −2^31
abbrev coarse : List Event
coarse = map word (S_with ((5, 0x100000) ∷ (7, 0xFFFF800) ∷ (8, 2048) ∷ [])) ++ enabling ++ start 10 HOM ∷ at 0 off ∷ []

abbrev edges : List Event
edges = target (pos 2047) ∷ target (pos 2048) ∷ target (pos 2049) ∷ target (minus 2047) ∷ target (minus 2048) ∷ target (minus 2049) ∷ []

abbrev requests : List Event
requests = ask (Torque (pos 900)) ∷ ask (Torque (minus 700)) ∷ ask (Torque (minus 32768)) ∷ ask (Torque (pos 800)) ∷ []

-- the starred ones, and those between them
unfoldable pub table : List Bool
table =
    -- S is taken over; its last digit C: 4; sixth word of kind 6: 1
    same_words (map number (replies S)) (replicate 15 0)
    ∷ same_words (map number (replies (take 14 S ++ word 0xF0E1622C ∷ []))) (replicate 14 0 ++ (4 ∷ []))
    ∷ same_words (map number (replies (take 5 S ++ word 0x60000002 ∷ []))) (replicate 5 0 ++ (1 ∷ []))
    -- homed at 0 by route c: target 5 gears to 7, −5 to −8, 1001 to 1500 with bit 11, 1000 to 1500 without
    ∷ same_counts (map position (after homed_at_0 targets)) (pos 7 ∷ minus 8 ∷ pos 1500 ∷ pos 1500 ∷ [])
    ∷ same_words (map status (after homed_at_0 targets)) (0x1337 ∷ 0x1337 ∷ 0x1B37 ∷ 0x1337 ∷ [])
    -- set 1: 900 gives 800, −700 gives −600, −32768 gives −600, 800 gives 800
    ∷ same_counts (map torque (after enabled requests)) (pos 800 ∷ minus 600 ∷ minus 600 ∷ pos 800 ∷ [])
    -- hybrid KP 2, pd 0.5, others 0: 500; T −1 alone, rated 3000: −333
    ∷ same_counts (map torque (after enabled (ask (hybrid 0x4000_0000 0 0x3f00_0000 0 0) ∷ []))) (pos 500 ∷ [])
    ∷ same_counts (map torque (after (enabled_with 13 3000) (ask (hybrid 0 0 0 0 0xbf80_0000) ∷ []))) (minus 333 ∷ [])
    -- Ready with 000F: 0233, next tick 0237
    ∷ same_words (map status (after S enabling)) (0x0250 ∷ 0x0231 ∷ 0x0233 ∷ 0x0237 ∷ [])
    -- method 23, HOM off, started at 100: 110 on, 112 off, 108 on, 103 off is homed at 103, where target 0 is
    ∷ same_words (map status (after enabled rehearsed)) (0x0237 ∷ 0x0237 ∷ 0x0237 ∷ 0x0237 ∷ 0x1737 ∷ 0x1337 ∷ [])
    ∷ same_counts (map position (after (enabled ++ take 5 rehearsed) (drop 5 rehearsed))) (pos 103 ∷ [])
    ∷ []

-- the last reply has bit 8 set: homed
abbrev ends_homed : List Reply → Bool
ends_homed [] = false
ends_homed (r ∷ []) = bit_of (status r) 8
ends_homed (r ∷ q ∷ rs) = ends_homed (q ∷ rs)

abbrev homes : ℕ → List Event → Bool
homes method es = ends_homed (replies (enabled_with 1 method ++ es))

abbrev faults : List Event
faults =
    alarmed 0x28 0x000F ∷ alarmed 8 0x000F ∷ alarmed 8 0x0080 ∷ alarmed 0 0x0080 ∷ alarmed 0 0x0000 ∷ alarmed 0 0x0080 ∷ []

unfoldable pub further : List Bool
further =
    -- the settings that S carries; a tick before S: 8
    acceptable settings_S
    ∷ same_words (words_of 1 settings_S) words_S
    ∷ same_words (map number (replies (ask Rest ∷ S))) (8 ∷ replicate 15 0)
    -- enabled: bit 7 keeps the state, quick stop; at standstill option 2 leaves by itself, also with bit 7
    ∷ same_words (map status (after enabled (moving_tick 0x008F Rest ∷ moving_tick 0x0002 Rest ∷ still_tick 0x0082 Rest ∷ []))) (0x0237 ∷ 0x0217 ∷ 0x0250 ∷ [])
    -- option 6 leaves by enable, at standstill
    ∷ same_words (map status (after (enabled_with 12 6) (moving_tick 0x0002 Rest ∷ moving_tick 0x000F Rest ∷ still_tick 0x000F Rest ∷ []))) (0x0217 ∷ 0x0217 ∷ 0x0237 ∷ [])
    -- an alarm, its lowest bit plus 1, and its end: bit 7 rises without alarm; not with one, and a level is not enough
    ∷ same_words (map status (after enabled faults)) (0x020F ∷ 0x0208 ∷ 0x0208 ∷ 0x0208 ∷ 0x0208 ∷ 0x0250 ∷ [])
    ∷ same_words (map alarm (after enabled faults)) (4 ∷ 4 ∷ 4 ∷ 4 ∷ 4 ∷ 0 ∷ [])
    -- an alarm in Not ready
    ∷ same_words (map status (after S (alarmed 1 0x0000 ∷ []))) (0x020F ∷ [])
    -- set 2, a maximum below either limit, and a torque that is off
    ∷ same_counts (map torque (after enabled (ask_in Set2 (Torque (pos 900)) ∷ []))) (pos 300 ∷ [])
    ∷ same_counts (map torque (after (enabled_with 9 200) (ask (Torque (pos 900)) ∷ ask (Torque (minus 900)) ∷ []))) (pos 200 ∷ minus 200 ∷ [])
    ∷ same_counts (map torque (after S (ask (Torque (pos 900)) ∷ []))) (pos 0 ∷ [])
    -- T −0.001: q is about −0.5, and the demand 0
    ∷ same_counts (map torque (after enabled (ask (hybrid 0 0 0 0 0xba83_126f) ∷ []))) (pos 0 ∷ [])
    -- KP 1, pd 2^24, KD 1, vd 1, T −2^24: the first sum is rounded to 2^24, so the demand is 0 and not 500
    ∷ same_counts (map torque (after enabled (ask (hybrid 0x3f80_0000 0x3f80_0000 0x4b80_0000 0x3f80_0000 0xcb80_0000) ∷ []))) (pos 0 ∷ [])
    -- KP 2^127, pd 2^−130, which is subnormal, rated 1000: 125, where a flush to zero would give 0
    ∷ same_counts (map torque (after (enabled_with 13 1000) (ask (hybrid 0x7f00_0000 0 0x0008_0000 0 0) ∷ []))) (pos 125 ∷ [])
    -- T 2^80 and −2^80: q is beyond every machine number, and is clamped
    ∷ same_counts (map torque (after enabled (ask (hybrid 0 0 0 0 0x6780_0000) ∷ ask (hybrid 0 0 0 0 0xe780_0000) ∷ []))) (pos 800 ∷ minus 600 ∷ [])
    -- T the largest float: times 1000000 it is infinite, though the quotient by 2^24 would not be; KP infinite times 0 is a NaN
    ∷ same_words (map alarm (after (enabled_with 13 16777216) (ask (hybrid 0 0 0 0 0x7f7f_ffff) ∷ []))) (32 ∷ [])
    ∷ same_words (map alarm (after enabled (ask (hybrid 0x7f80_0000 0 0 0 0) ∷ []))) (32 ∷ [])
    -- speeds: fast forward, slow backward, 0 once homed; 0 in a halted tick
    ∷ same_counts (map speed (after enabled rehearsed)) (pos 20000 ∷ minus 1000 ∷ minus 1000 ∷ minus 1000 ∷ pos 0 ∷ pos 0 ∷ [])
    ∷ same_counts (map speed (after enabled (start 100 off ∷ halted 105 off ∷ at 106 off ∷ []))) (pos 20000 ∷ pos 0 ∷ pos 20000 ∷ [])
    -- homed, also with bit 4 clear afterwards; 35 by the start tick alone, also halted
    ∷ homes 23 (start 100 off ∷ at 110 HOM ∷ at 108 off ∷ released 120 off ∷ [])
    ∷ homes 35 (inputs 0x011F (Homing (pos 0)) 100 off true ∷ [])
    -- 02, (i): kind 1 admits 17, and not 16; homed on a limit, from off it and from on it, and not by a drop while coasting
    ∷ same_words (map number (replies (with 1 17))) (replicate 15 0)
    ∷ same_words (map number (replies (take 2 (with 1 16)))) (0 ∷ 3 ∷ [])
    ∷ homes 17 (start 100 off ∷ at 90 NOT ∷ at 92 off ∷ [])
    ∷ homes 18 (start 100 POT ∷ at 98 off ∷ [])
    ∷ homes 1 (start 100 NOT ∷ at 102 off ∷ at 103 Z ∷ [])
    ∷ homes 2 (start 100 off ∷ at 110 POT ∷ at 108 off ∷ at 107 Z ∷ [])
    ∷ not (homes 17 (start 100 off ∷ at 90 NOT ∷ at 88 off ∷ []))
    -- the other limit in the next leg is an error, bit 13
    ∷ same_words (map status (after (enabled_with 1 17) (start 100 NOT ∷ at 102 (switches_in 3) ∷ []))) (0x0A37 ∷ 0x2E37 ∷ [])
    -- 02, (ii): parked on the limit ahead, 23 and 27 turn in the first tick after the start, and 33 fails
    ∷ same_counts (map speed (after enabled (start 100 POT ∷ at 100 POT ∷ []))) (pos 20000 ∷ minus 20000 ∷ [])
    ∷ same_counts (map speed (after (enabled_with 1 27) (start 100 NOT ∷ at 100 NOT ∷ []))) (minus 20000 ∷ pos 20000 ∷ [])
    ∷ same_words (map status (after (enabled_with 1 33) (start 100 NOT ∷ at 100 NOT ∷ []))) (0x0A37 ∷ 0x2E37 ∷ [])
    -- the awaited limit ends its leg without movement; on in the start tick, it skips that leg, and then is the limit behind
    ∷ same_counts (map speed (after (enabled_with 1 17) (start 100 off ∷ at 100 NOT ∷ []))) (minus 20000 ∷ pos 1000 ∷ [])
    ∷ same_counts (map speed (after (enabled_with 1 18) (start 100 off ∷ at 100 POT ∷ []))) (pos 20000 ∷ minus 1000 ∷ [])
    ∷ same_counts (map speed (after (enabled_with 1 18) (start 100 POT ∷ at 100 POT ∷ []))) (minus 1000 ∷ minus 1000 ∷ [])
    -- a limit that came on in halt counts when halt ends, if it is still on
    ∷ same_counts (map speed (after enabled (start 100 off ∷ halted 100 POT ∷ halted 100 POT ∷ at 100 POT ∷ []))) (pos 20000 ∷ pos 0 ∷ pos 0 ∷ minus 20000 ∷ [])
    ∷ homes 23 (start 100 off ∷ halted 100 POT ∷ at 100 POT ∷ at 95 HOM ∷ at 97 off ∷ at 96 HOM ∷ at 94 off ∷ [])
    ∷ homes 23 (start 100 off ∷ halted 100 POT ∷ at 100 off ∷ at 110 HOM ∷ at 108 off ∷ [])
    -- the event and the limit in one tick: the event
    ∷ homes 23 (start 100 POT ∷ at 101 (switches_in 5) ∷ at 99 off ∷ [])
    -- 02, (iii): by both gears; a product of 2^31 is too wide for the narrow one, −2^31 is not
    ∷ same_counts (map position (after coarse edges)) (pos 0x3FF80000 ∷ pos 0x40000000 ∷ pos 0x40000000 ∷ minus 0x3FF80000 ∷ minus 0x40000000 ∷ minus 0x40000000 ∷ [])
    -- not homed: the edge lost in halt
    ∷ not (homes 33 (start 100 off ∷ halted 99 Z ∷ at 98 Z ∷ []))
    -- bit 4 clear in the tick of the event, and for one tick before it
    ∷ not (homes 23 (start 100 HOM ∷ released 95 off ∷ []))
    ∷ not (homes 23 (start 100 HOM ∷ released 99 HOM ∷ at 95 off ∷ []))
    -- no start: bit 4 rises before the axis is enabled
    ∷ not (ends_homed (replies (with 1 35 ++ start 100 off ∷ [])))
    ∷ []

-- the method of the settings in force, as the list says
abbrev method_in : Active → ℕ
method_in Nothing = 0
method_in (Set s) = s.method

abbrev started : Since → Bool
started never = false
started (begun switches views) = true

-- closed lists at which a wrong reading differs: the latest takeover counts; bit 4 set all along is no start, its rise is one; a
-- takeover forgets the start
unfoldable pub readings : List Bool
readings =
    eqb (method_in (known (S ++ with 1 35)).settings) 35
    ∷ not (started (known (enabled ++ still_tick 0x001F Rest ∷ start 100 off ∷ [])).since)
    ∷ started (known (enabled ++ start 100 off ∷ [])).since
    ∷ not (started (known (enabled ++ start 100 off ∷ still_tick 0x0000 Rest ∷ with 1 35)).since)
    ∷ []
