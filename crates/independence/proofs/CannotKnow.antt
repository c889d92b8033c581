-- What holds of axes that are `Alike` holds of those that words and ticks lead to, as there the leg tells the route.
-- Assumes nothing.
use Rattle.demands.specs.Replies.{axis_of}
use Rattle.independence.specs.CannotKnow.{HomingCannotKnow, HomingCannotKnowWithWords}
use Rattle.independence.proofs.Alike.{answered-alike, ticks-alike}
use Rattle.independence.proofs.Leg.{reached-alike}

pub homing-cannot-know : HomingCannotKnow
homing-cannot-know es fs ts h n = ticks-alike (axis_of es) (axis_of fs) ts (reached-alike es fs h) n

pub homing-cannot-know-with-words : HomingCannotKnowWithWords
homing-cannot-know-with-words es fs gs hs h same n taken-es taken-fs =
    answered-alike (axis_of es) (axis_of fs) gs hs (reached-alike es fs h) same n taken-es taken-fs
