-- 01, "Homing routes": "A leg is direction, speed (F fast, S slow) and event".
-- Assumes nothing.
use Rattle.std.specs.Prelude.{Bool}

-- what an event looks at: HOM, Z, the limit in travel direction, and the other limit
pub data Switch : Type 0 where
  Home Index LimitAhead LimitBehind : Switch

-- what the switch does: it rises or drops, or it is on
pub data Trigger : Type 0 where
  Rise Drop On : Trigger

pub record Event : Type 0 where
  pub switch : Switch
  pub trigger : Trigger

pub record Leg : Type 0 where
  pub forward : Bool
  pub fast : Bool
  pub event : Event
