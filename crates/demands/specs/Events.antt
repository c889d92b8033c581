-- What an axis is fed: settings words and ticks, in any order.
-- Assumes nothing.
use Rattle.std.specs.Prelude.{ℕ}
use Rattle.ticks.specs.declared.Tick.{Tick}

pub data Event : Type 0 where
  word : ℕ → Event
  tick : Tick → Event
