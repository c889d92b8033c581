-- 02, (vi), "What homing can't know": the request's sentence, of every two axes that words and ticks lead to, is `HomingCannotKnow`. The running leg is
-- 01's there: direction, speed and event. Proved in `proofs/CannotKnow.antt`.
-- Assumes nothing.
use Rattle.std.specs.Prelude.{◌≡◌, List, map}
use Rattle.ticks.specs.declared.Tick.{Tick}
use Rattle.demands.specs.Events.{Event, tick}
use Rattle.demands.specs.Replies.{axis_of}
use Rattle.independence.specs.Alike.{NoPosition, answers_from, ticks_in, NoTakeover}
use Rattle.independence.specs.Leg.{AlikeByLeg}

-- "two axes with equal drive state, shown mode, alarm number, remembered inputs, homed, homing error and running leg, whose sheets differ only in
-- gear, offset and stops", `AlikeByLeg`, "give equal answers to each list of ticks without position command or takeover"
abbrev pub HomingCannotKnow : Type 0
HomingCannotKnow =
    (es fs : List Event) (ts : List Tick) → AlikeByLeg (axis_of es) (axis_of fs) → NoPosition ts
    → answers_from (axis_of es) (map tick ts) ≡ answers_from (axis_of fs) (map tick ts)

-- and so with any words among the ticks, on either side, as long as none takes over
abbrev pub HomingCannotKnowWithWords : Type 0
HomingCannotKnowWithWords =
    (es fs gs hs : List Event) → AlikeByLeg (axis_of es) (axis_of fs) → ticks_in gs ≡ ticks_in hs → NoPosition (ticks_in gs)
    → NoTakeover (axis_of es) gs → NoTakeover (axis_of fs) hs → answers_from (axis_of es) gs ≡ answers_from (axis_of fs) hs
