-- 02, (vi), "running leg". A leg is direction, speed and event (01). On axes that no words and ticks lead to equal legs may be followed by different
-- ones, or a limit may turn one and not the other, and then answers may differ (`Examples.antt`); so `Alike` asks for the rest of the route and the
-- turn too. An axis that words and ticks lead to has its leg in a route of the method in force, and there the leg alone tells all that: of such axes
-- the request's sentence holds to the letter. Proved in `proofs/Leg.antt`.
-- Assumes nothing.
use Rattle.std.specs.Prelude.{◌≡◌, List}
use Rattle.settings.specs.declared.Settings.{Settings}
use Rattle.homing.specs.Moving.{running_leg}
use Rattle.rules.specs.Axis.{Set, Axis}
use Rattle.demands.specs.Events.{Event}
use Rattle.demands.specs.Replies.{axis_of}
use Rattle.independence.specs.Alike.{EqualButLeg, running_from, Alike}

-- of one method, with one leg running: one route
abbrev pub LegTellsRoute : Type 0
LegTellsRoute =
    (es fs : List Event) (s r : Settings) → (axis_of es).active ≡ Set s → (axis_of fs).active ≡ Set r → s.method ≡ r.method
    → running_leg (axis_of es).motion.phase ≡ running_leg (axis_of fs).motion.phase
    → running_from (axis_of es).motion.phase ≡ running_from (axis_of fs).motion.phase

-- `Alike`, with the running leg as 01 has it
pub record AlikeByLeg (a b : Axis) : Type 0 where
  pub others : EqualButLeg a b
  pub leg : running_leg a.motion.phase ≡ running_leg b.motion.phase

-- so it is enough for the theorems
abbrev pub ReachedAlike : Type 0
ReachedAlike = (es fs : List Event) → AlikeByLeg (axis_of es) (axis_of fs) → Alike (axis_of es) (axis_of fs)
