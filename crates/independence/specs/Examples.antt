-- 02, (vi): closed axes. Pairs that meet `Alike` home on a route and are answered alike. And for each equality that `Alike` asks for, for settings in
-- force, for position commands and for takeover: axes and lists that, as they are built, meet all else and are answered otherwise. The checker evaluates
-- both tables.
-- Assumes nothing.
use Rattle.std.specs.Prelude.{ℕ, ◌+◌, ◌-◌, ◌*◌, ◌%◌, ◌^◌, ◌≡◌, Bool, true, false, not, ◌&&◌, List, [], ◌∷◌, ◌++◌, map, eqb, ℤ, pos, take, drop, replicate}
use Rattle.counts.specs.Tests.{minus, same}
use Rattle.settings.specs.declared.Settings.{Settings}
use Rattle.words.specs.Word.{same_words}
use Rattle.words.specs.Decode.{settings_from}
use Rattle.reader.specs.Pending.{Pending}
use Rattle.reader.specs.Read.{empty_pending}
use Rattle.legs.specs.Numbers.{main_route}
use Rattle.homing.specs.Phase.{Idle, Running, Homed, Failed}
use Rattle.states.specs.declared.State.TheVariants.{SwitchOnDisabled, OperationEnabled, QuickStopActive}
use Rattle.modes.specs.declared.Mode.TheVariants as mode
use Rattle.commands.specs.declared.Command.TheVariants.{Homing, Torque, Rest}
use Rattle.torque.specs.declared.LimitSet.TheVariants.{Set2}
use Rattle.ticks.specs.Motion.{Motion, fresh_motion, driven, phased, home_at, fed}
use Rattle.answers.specs.declared.Answer.{Answer}
use Rattle.rules.specs.Axis.{Active, Nothing, Set, Axis, fresh_axis}
use Rattle.demands.specs.Events.{Event, word}
use Rattle.demands.specs.Replies.{replies_from}
use Rattle.demands.specs.Sheet.{settings_S, data_with, S_with}
use Rattle.demands.specs.Lists.{off, HOM, POT, still_tick, moving_tick, ask, ask_in, hybrid, at, target, rehearsed, S, enabling, enabled, number, speed, status, same_counts}
use Rattle.independence.specs.Alike.{answers_from}

-- ---- what the tables are made of

abbrev pub same_answer : Answer → Answer → Bool
same_answer a b =
    eqb a.number b.number
    && same a.torque b.torque
    && same a.speed b.speed
    && same a.position b.position
    && eqb a.status b.status
    && same a.mode b.mode
    && eqb a.alarm b.alarm

abbrev pub same_answers : List Answer → List Answer → Bool
same_answers [] [] = true
same_answers [] (y ∷ ys) = false
same_answers (x ∷ xs) [] = false
same_answers (x ∷ xs) (y ∷ ys) = same_answer x y && same_answers xs ys

-- S with other units: offset, lower and upper stop, and a gear
abbrev pub with_units : ℤ → ℤ → ℤ → ℕ → ℕ → Settings
with_units offset lower upper numerator denominator = settings_from offset lower upper 2 1000 (data_with ((5, numerator) ∷ (6, denominator) ∷ []))

-- S with other data of a kind that is one number or one set of limits (1, 2, 3, 9, 10, 11, 13)
abbrev S_but : ℕ → ℕ → Settings
S_but kind x = settings_from (pos 0) (minus 1000) (pos 1000) 2 1000 (data_with ((kind, x) ∷ []))

-- with another quick stop option; with another homing torque, as layout 3 has it
abbrev with_option : ℕ → Settings
with_option option = settings_from (pos 0) (minus 1000) (pos 1000) option 1000 (data_with [])

abbrev with_homing_torque : ℕ → Settings
with_homing_torque homing = settings_from (pos 0) (minus 1000) (pos 1000) 2 homing (data_with [])

-- enabled in mode 6 at 100, with 000F and no switch remembered
abbrev standing : Motion
standing = fed (driven fresh_motion OperationEnabled mode.Homing 0) 0x000F off (pos 100)

abbrev homed : Motion
homed = phased standing Homed

-- in the first leg of method 23, bit 4 remembered
abbrev pub running : Motion
running = phased (fed standing 0x001F off (pos 100)) (Running (main_route 23))

abbrev pub axis : Active → Pending → Motion → Axis
axis active pending motion = record { active = active; pending = pending; motion = motion }

-- nothing pending
abbrev under : Settings → Motion → Axis
under s motion = axis (Set s) empty_pending motion

-- 01's route of method 23, homed at 103
abbrev route : List Event
route = take 5 rehearsed

-- ---- axes that are alike

-- two rehearsals: another gear, offset, lower and upper stop; and another home, and words pending
abbrev pub one : Motion → Axis
one motion = under settings_S motion

abbrev pub other : Motion → Axis
other motion = axis (Set (with_units (minus 40) (minus 3000) (pos 250) 7 5)) (record { count = 2; values = 1 ∷ 35 ∷ replicate 13 0 }) (home_at motion (pos 777))

-- settings that no sheet has: stops crossed, an offset of 2 ^ 40, a gear of 0 over 0
abbrev pub odd : Motion → Axis
odd motion = under (with_units (pos (2 ^ 40)) (pos 1) (pos 0) 0 0) (home_at motion (minus 1))

-- the words of the settings of `other`
abbrev words_other : List ℕ
words_other = S_with ((4, 2 ^ 28 - 40) ∷ (5, 7) ∷ (6, 5) ∷ (7, 2 ^ 28 - 3000) ∷ (8, 250) ∷ [])

-- a word that is due in `other`, one that is not, and in the route a whole sheet whose end word comes while the axis is live
abbrev with_words : List Event
with_words = word 0x20004E20 ∷ word 0x60000002 ∷ take 2 route ++ S ++ drop 2 route

-- after a tick, a target that is followed, and then homing anew
abbrev target_then_route : List Event
target_then_route = ask Rest ∷ target (pos 500) ∷ route

-- a list but for the entry at a place, from 0 on
abbrev without : ℕ → List Answer → List Answer
without n xs = take n xs ++ drop (n + 1) xs

-- where answers are compared here, a theorem says that they are equal: `AnsweredAlike`; for sheets taken over `RehearsalsAlike`; with a position command
-- `WithPositions`
unfoldable pub alike : List Bool
alike =
    -- homing runs its route, leg by leg, and is homed
    same_counts (map speed (replies_from (one standing) route)) (pos 20000 ∷ minus 1000 ∷ minus 1000 ∷ minus 1000 ∷ pos 0 ∷ [])
    ∷ same_words (map status (replies_from (one standing) route)) (0x0237 ∷ 0x0237 ∷ 0x0237 ∷ 0x0237 ∷ 0x1737 ∷ [])
    ∷ same_answers (answers_from (one standing) route) (answers_from (other standing) route)
    ∷ same_answers (answers_from (one standing) route) (answers_from (odd standing) route)
    -- and from within its first leg
    ∷ same_answers (answers_from (one running) (drop 1 route)) (answers_from (other running) (drop 1 route))
    -- from a fresh axis, each with its own sheet taken over, and then enabled
    ∷ same_answers (answers_from fresh_axis (enabled ++ route)) (answers_from fresh_axis (map word words_other ++ enabling ++ route))
    -- with words on one side, stored, refused with 1, and with 7, and none on the other
    ∷ same_words (map number (replies_from (other standing) with_words)) (0 ∷ 1 ∷ replicate 2 0 ++ replicate 14 0 ++ 7 ∷ replicate 3 0)
    ∷ same_answers (answers_from (one standing) route) (answers_from (other standing) with_words)
    -- with the same words on both, whose first is stored in `other` and refused in `one`
    ∷ same_words (map number (replies_from (one standing) with_words)) (1 ∷ 1 ∷ replicate 2 0 ++ replicate 14 0 ++ 7 ∷ replicate 3 0)
    ∷ same_answers (answers_from (one standing) with_words) (answers_from (other standing) with_words)
    -- and a position command: the tick before it and the ticks after it, in which the axis homes anew
    ∷ same_answers (without 1 (answers_from (one homed) target_then_route)) (without 1 (answers_from (other homed) target_then_route))
    ∷ []

-- ---- each thing that the theorem asks for is used

abbrev pub differ : List Answer → List Answer → Bool
differ xs ys = not (same_answers xs ys)

-- answers that differ so are not equal (`proofs/Examples.antt`)
abbrev pub DifferMeans : Type 0
DifferMeans = (xs ys : List Answer) → differ xs ys ≡ true → xs ≡ ys → ⊥

-- S and other settings, from one motion on; two motions, under S
abbrev settings_differ : Settings → Motion → List Event → Bool
settings_differ s m es = differ (answers_from (one m) es) (answers_from (under s m) es)

abbrev motions_differ : Motion → Motion → List Event → Bool
motions_differ m n es = differ (answers_from (one m) es) (answers_from (one n) es)

-- homed, and not live
abbrev disabled : Motion
disabled = driven homed SwitchOnDisabled mode.Homing 0

-- the leg of `running` with none after it; and where no limit turns it
abbrev pub alone : ℕ
alone = main_route 23 % 256

abbrev pub unturned : ℕ
unturned = main_route 23 - 32

unfoldable pub differing : List Bool
differing =
    -- of `target_then_route`, the answer to the position command
    differ (answers_from (one homed) target_then_route) (answers_from (other homed) target_then_route)
    -- a position command: of axes that are alike, after homing; with another home; with another numerator, denominator, offset, lower and upper stop
    ∷ differ (answers_from (one standing) rehearsed) (answers_from (other standing) rehearsed)
    ∷ motions_differ homed (home_at homed (pos 1)) (target (pos 0) ∷ [])
    ∷ settings_differ (with_units (pos 0) (minus 1000) (pos 1000) 7 2) homed (target (pos 500) ∷ [])
    ∷ settings_differ (with_units (pos 0) (minus 1000) (pos 1000) 3 5) homed (target (pos 500) ∷ [])
    ∷ settings_differ (with_units (pos 1) (minus 1000) (pos 1000) 3 2) homed (target (pos 500) ∷ [])
    ∷ settings_differ (with_units (pos 0) (minus 999) (pos 1000) 3 2) homed (target (minus 1000) ∷ [])
    ∷ settings_differ (with_units (pos 0) (minus 1000) (pos 999) 3 2) homed (target (pos 1000) ∷ [])
    -- a gear that differs, and a position command after homing; and after homing with sheets taken over that differ in all units
    ∷ settings_differ (with_units (pos 0) (minus 1000) (pos 1000) 7 5) standing (route ++ target (pos 500) ∷ [])
    ∷ differ
    (answers_from fresh_axis (enabled ++ route ++ target (pos 500) ∷ []))
    (answers_from fresh_axis (map word words_other ++ enabling ++ route ++ target (pos 500) ∷ []))
    -- another method, fast or slow speed
    ∷ settings_differ (S_but 1 27) standing route
    ∷ settings_differ (S_but 2 19999) standing route
    ∷ settings_differ (S_but 3 999) standing route
    -- another maximum; limits of set 1, of set 2
    ∷ settings_differ (S_but 9 700) standing (ask (Torque (pos 900)) ∷ [])
    ∷ settings_differ (S_but 10 (600 * 2 ^ 14 + 799)) standing (ask (Torque (pos 900)) ∷ [])
    ∷ settings_differ (S_but 10 (599 * 2 ^ 14 + 800)) standing (ask (Torque (minus 900)) ∷ [])
    ∷ settings_differ (S_but 11 (300 * 2 ^ 14 + 299)) standing (ask_in Set2 (Torque (pos 900)) ∷ [])
    ∷ settings_differ (S_but 11 (299 * 2 ^ 14 + 300)) standing (ask_in Set2 (Torque (minus 900)) ∷ [])
    -- another quick stop option, rated torque, homing torque
    ∷ settings_differ (with_option 6) standing (moving_tick 0x0002 Rest ∷ still_tick 0x0002 Rest ∷ [])
    ∷ settings_differ (S_but 13 3000) standing (ask (hybrid 0x4000_0000 0 0x3f00_0000 0 0) ∷ [])
    ∷ settings_differ (with_homing_torque 250) standing (ask (Homing (pos 900)) ∷ [])
    -- no settings in force
    ∷ differ (answers_from (one standing) (ask Rest ∷ [])) (answers_from (axis Nothing empty_pending standing) (ask Rest ∷ []))
    -- another drive state, shown mode, alarm number
    ∷ motions_differ standing (driven standing QuickStopActive mode.Homing 0) (moving_tick 0x000F Rest ∷ [])
    ∷ motions_differ standing (driven standing OperationEnabled mode.Torque 0) (moving_tick 0x000F Rest ∷ [])
    ∷ motions_differ standing (driven standing OperationEnabled mode.Homing 4) (moving_tick 0x000F Rest ∷ [])
    -- another control word, other switches, another position remembered
    ∷ motions_differ standing (fed standing 0x001F off (pos 100)) route
    ∷ motions_differ running (fed running 0x001F HOM (pos 100)) (at 110 HOM ∷ [])
    ∷ motions_differ running (fed running 0x001F off (pos 120)) (at 110 HOM ∷ [])
    -- homed, homing error, a running leg
    ∷ motions_differ standing homed (ask Rest ∷ [])
    ∷ motions_differ standing (phased standing Failed) (ask (Homing (pos 0)) ∷ [])
    ∷ motions_differ running (phased running Idle) (at 105 off ∷ [])
    -- the same leg, with no other after it, and where no limit turns it
    ∷ motions_differ running (phased running (Running alone)) (at 110 HOM ∷ [])
    ∷ motions_differ running (phased running (Running unturned)) (at 100 POT ∷ [])
    -- a takeover, on one side, of S itself
    ∷ differ (answers_from (one disabled) (S ++ still_tick 0x0000 Rest ∷ [])) (answers_from (one disabled) (still_tick 0x0000 Rest ∷ []))
    ∷ []
